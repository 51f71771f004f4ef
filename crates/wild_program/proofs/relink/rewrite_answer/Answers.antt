use Rattle.wild_program.proofs.Common.{refl, plan, of_relink}
use Rattle.wild_program.specs.Program.{relink_status, relink_answer_text}
use Rattle.wild_program.specs.Steps.{ChangeFits}
use Rattle.wild_program.proofs.AnswerLemmas.{no_plan_said, no_plan_has}
use Rattle.wild_program.proofs.relink.rewrite_answer.Goals as goal

pub returns-in-Err : goal.returns-in-Err
returns-in-Err g c =
    let none = rw c.in-Err.is at c.in_ok-request.ensures in
    let said = no_plan_said relink_status relink_answer_text none.meaning c.in-Err.text.items none.line in
    record {
      answer = of_relink none.meaning;
      meant = (none.meaning, refl, none.means);
      fits = no_plan_has ChangeFits none.meaning c.in-Err.text.items none.line;
      status_is = said.0;
      text_is = said.1;
    }

pub returns : goal.returns
returns g c = record {
  answer = of_relink (plan c.in-Ok.request);
  meant = (plan c.in-Ok.request, refl, rw c.in-Ok.is at c.in_ok-request.ensures);
  fits = c.in_ok-answer.ensures.fits;
  status_is = c.in_ok-answer.ensures.text.0;
  text_is = c.in_ok-answer.ensures.text.1;
}
