use Rattle.wild_program.proofs.Common.{refl, plan, of_place}
use Rattle.wild_program.specs.Program.{place_status, place_answer_text}
use Rattle.wild_program.specs.Steps.{PlacedFits}
use Rattle.wild_program.proofs.AnswerLemmas.{no_plan_said, no_plan_has}
use Rattle.wild_program.proofs.place.loaded_answer.Goals as goal

pub returns-in-Err : goal.returns-in-Err
returns-in-Err g c =
    let none = rw c.in-Err.is at c.in_ok-request.ensures in
    let said = no_plan_said place_status place_answer_text none.meaning c.in-Err.text.items none.line in
    record {
      answer = of_place none.meaning;
      meant = (none.meaning, refl, none.means);
      fits = no_plan_has PlacedFits none.meaning c.in-Err.text.items none.line;
      status_is = said.0;
      text_is = said.1;
    }

pub returns : goal.returns
returns g c = record {
  answer = of_place (plan c.in-Ok.request);
  meant = (plan c.in-Ok.request, refl, rw c.in-Ok.is at c.in_ok-request.ensures);
  fits = c.numbers_fit.ensures;
  status_is = c.in_ok-answer.ensures.0;
  text_is = c.in_ok-answer.ensures.1;
}
