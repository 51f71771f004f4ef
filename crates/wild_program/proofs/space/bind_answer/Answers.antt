use Rattle.wild_program.proofs.Common.{refl, plan, of_space}
use Rattle.wild_program.specs.Program.{space_status, space_answer_text}
use Rattle.wild_program.proofs.AnswerLemmas.{no_plan_said}
use Rattle.wild_program.proofs.space.bind_answer.Goals as goal

pub returns-in-Err : goal.returns-in-Err
returns-in-Err c =
    let none = rw c.in-Err.is at c.in_ok-request.ensures in
    let said = no_plan_said space_status space_answer_text none.meaning c.in-Err.text.items none.line in
    record {
      answer = of_space none.meaning;
      meant = (none.meaning, refl, none.means);
      fits = tt;
      status_is = said.0;
      text_is = said.1;
    }

pub returns : goal.returns
returns c = record {
  answer = of_space (plan c.in-Ok.request);
  meant = (plan c.in-Ok.request, refl, rw c.in-Ok.is at c.in_ok-request.ensures);
  fits = tt;
  status_is = c.in_ok-answer.ensures.0;
  text_is = c.in_ok-answer.ensures.1;
}

pub bound_answer-requires : goal.bound_answer-requires
bound_answer-requires c =
    let meant = rw c.in-Ok.is at c.in_ok-request.ensures in
    c.spaces_have_images.ensures meant.0 c.in-Ok.request meant.2
