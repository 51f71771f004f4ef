use Rattle.wild_image.proofs.Common.{err_from_is_err_and, part_faults}
use Rattle.wild_sections.proofs.FaultLemmas.{none_from, refuses_from}
use Rattle.wild_image.proofs.shares.check_parts.Goals as goal

pub returns-in_err-check_part : goal.returns-in_err-check_part
returns-in_err-check_part c =
    let p = err_from_is_err_and c.from_residual.result c.from_residual.ensures.1 in
    rw (p.1, p.2) (refuses_from (part_faults c.args.layout.now) c.args.parts.now c.loop-i.i _ _ c.loop-i-test.true c.index-parts-i.is c.loop-i.invariant c.in_err-check_part.ensures)

pub loop-i-preserved : goal.loop-i-preserved
loop-i-preserved c = none_from (part_faults c.args.layout.now) c.args.parts.now c.loop-i.i _ c.loop-i-test.true c.index-parts-i.is c.loop-i.invariant c.in_ok-check_part.ensures
