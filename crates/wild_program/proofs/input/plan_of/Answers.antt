use Rattle.wild_program.proofs.Common.{ℕ, List, Err, subst}
use Rattle.wild_text.specs.Means.{IsReadAs}
use Rattle.wild_program.proofs.FaultTexts.{no_plan_for}
use Rattle.wild_program.proofs.input.plan_of.Goals as goal

pub returns : goal.returns
returns g c =
    let means = subst (λ (bytes : List ℕ). IsReadAs g.T.Planned.reads bytes (Err c.in-Err.fault)) c.as_slice.ensures.value c.in-Err.ensures in
    no_plan_for g.T.Planned.reads c.args.bytes.items c.in-Err.fault c.in_ok-text-in-Err.text.items means c.in_ok-text-in-Err.ensures
