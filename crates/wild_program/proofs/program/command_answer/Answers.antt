use Rattle.wild_program.proofs.Common.{refl, of_make}
use Rattle.wild_program.proofs.program.command_answer.Goals as goal

pub returns-in_ok-summary-in-Make : goal.returns-in_ok-summary-in-Make
returns-in_ok-summary-in-Make g c = record {
  answer = of_make c.in-Make.groups;
  meant = rw c.in-Make.is refl;
  fits = tt;
  status_is = refl;
  text_is = c.in_ok-summary-in-Make.ensures;
}
