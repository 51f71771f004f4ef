use Rattle.wild_program.proofs.Common.{refl, NumbersFit, plan, of_plan}
use Rattle.wild_program.specs.Program.{layout_status, layout_text}
use Rattle.wild_program.proofs.AnswerLemmas.{no_plan_said, no_plan_has}
use Rattle.wild_program.proofs.program.meaning_answer.Goals as goal

pub returns-in-Err : goal.returns-in-Err
returns-in-Err g c bytes read =
    let none = rw c.in-Err.is at read in
    let said = no_plan_said layout_status layout_text none.meaning c.in-Err.text.items none.line in
    record {
      answer = of_plan none.meaning;
      meant = (none.meaning, refl, none.means);
      fits = no_plan_has NumbersFit none.meaning c.in-Err.text.items none.line;
      status_is = said.0;
      text_is = said.1;
    }

pub returns : goal.returns
returns g c bytes read = record {
  answer = of_plan (plan c.in-Ok.layout);
  meant = (plan c.in-Ok.layout, refl, rw c.in-Ok.is at read);
  fits = c.numbers_fit.ensures;
  status_is = c.in_ok-answer.ensures.0;
  text_is = c.in_ok-answer.ensures.1;
}
