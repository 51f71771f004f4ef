use Rattle.std.proofs.Common.{◌<◌, length, arith}
use Rattle.std.proofs.lemmas.Result.{err_from_is_err_and}
use Rattle.wild_debug.proofs.FaultLemmas.{first_here, none_here}
use Rattle.wild_debug.proofs.faults.first_fault.Goals as goal

pub returns-in_err-check : goal.returns-in_err-check
returns-in_err-check g c =
    let r = c.from_residual in
    let p = err_from_is_err_and r.result r.ensures.1 in
    let test = c.loop-index-test.true in
    let s = c.args.step.now.section.now in
    let below : c.loop-index.index < length s.relocations = omega (arith, test) in
    rw (p.1, p.2) (first_here c.args.step.now.resolved.now.layout.now c.args.place.group c.args.place.file c.args.place.section s c.args.origins.now c.loop-index.index _ below c.loop-index.invariant c.in_err-check.ensures)

pub loop-index-preserved : goal.loop-index-preserved
loop-index-preserved g c = none_here c.args.step.now.resolved.now.layout.now c.args.place.group c.args.place.file c.args.place.section c.args.step.now.section.now c.args.origins.now c.loop-index.index c.loop-index.invariant c.in_ok-check.ensures
