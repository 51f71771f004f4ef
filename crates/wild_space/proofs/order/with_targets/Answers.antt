use Rattle.std.proofs.Common.{◌<◌, length, arith}
use Rattle.std.proofs.lemmas.Result.{err_from_is_err_and}
use Rattle.wild_space.specs.Order.{with_targets}
use Rattle.wild_space.proofs.Loops.{target_refused}
use Rattle.wild_space.proofs.order.with_targets.Goals as goal

pub returns-in_err-found-clause-is : goal.returns-in_err-found-clause-is
returns-in_err-found-clause-is c =
    let p = err_from_is_err_and c.from_residual.result c.from_residual.ensures.1 in
    let offsets = c.args.offsets.now in
    let test = c.loop-k-test.true in
    let below : c.loop-k.k < length offsets = omega (arith, test) in
    let e = c.in_err-found.field-0.0 in
    let start = with_targets c.args.images.now c.args.image c.args.tables.now 0 offsets c.args.growing.order in
    rw (p.1, p.2) (target_refused c.args.images.now c.args.image c.args.tables.now c.loop-k.k offsets c.loop-k.growing.order start e below c.in_err-found.ensures.is c.loop-k.invariant.0)
