use Rattle.wild_program.proofs.Common.{refl, plan, Yes, of_verify}
use Rattle.wild_program.specs.Program.{verify_status, verify_text}
use Rattle.wild_program.specs.Steps.{VerdictHolds}
use Rattle.wild_program.proofs.AnswerLemmas.{no_plan_said, no_plan_has}
use Rattle.wild_program.proofs.VerifyLemmas.{no_verdict}
use Rattle.wild_program.proofs.verify.checked_answer.Goals as goal

pub returns-in-Err : goal.returns-in-Err
returns-in-Err c =
    let none = rw c.in-Err.is at c.in_ok-request.ensures in
    let said = no_plan_said (verify_status Yes) (verify_text Yes) none.meaning c.in-Err.text.items none.line in
    record {
      answer = of_verify none.meaning Yes;
      meant = (none.meaning, Yes, refl, none.means, no_verdict none.meaning c.in-Err.text.items Yes none.line);
      fits = no_plan_has (VerdictHolds Yes) none.meaning c.in-Err.text.items none.line;
      status_is = said.0;
      text_is = said.1;
    }

pub returns : goal.returns
returns c =
    let said = c.in_ok-answer.ensures in
    record {
      answer = of_verify (plan c.in-Ok.request) said.verdict;
      meant = (plan c.in-Ok.request, said.verdict, refl, rw c.in-Ok.is at c.in_ok-request.ensures, said.is);
      fits = said.holds;
      status_is = said.status_is;
      text_is = said.text_is;
    }
