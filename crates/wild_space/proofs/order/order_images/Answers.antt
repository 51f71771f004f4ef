use Rattle.std.proofs.Common.{◌<◌, length, arith}
use Rattle.std.proofs.lemmas.Result.{err_from_is_err_and}
use Rattle.wild_space.specs.Order.{order_of}
use Rattle.wild_space.proofs.Loops.{walk_refused, walk_next}
use Rattle.wild_space.proofs.order.order_images.Goals as goal

pub returns-in_err-growing-2-clause-is : goal.returns-in_err-growing-2-clause-is
returns-in_err-growing-2-clause-is c =
    let r = c.from_residual-in_err-growing-2 in
    let p = err_from_is_err_and r.result r.ensures.1 in
    let test = c.loop-p-test.true in
    let below : c.loop-p.p < length c.args.images.now = omega (arith, test) in
    let more = c.if-len-p.false in
    let inside : c.loop-p.p < length c.loop-p.growing.order = omega (arith, more, c.len.ensures) in
    rw (p.1, p.2) (walk_refused c.args.images.now (length c.args.images.now) c.loop-p.p c.loop-p.growing.order (order_of c.args.images.now) c.in_err-growing-2.field-0.0 below inside (rw c.as_slice.ensures at c.in_err-growing-2.ensures.is) c.loop-p.invariant.same)

pub loop-p-preserved : goal.loop-p-preserved
loop-p-preserved c =
    let test = c.loop-p-test.true in
    let below : c.loop-p.p < length c.args.images.now = omega (arith, test) in
    let more = c.if-len-p.false in
    let inside : c.loop-p.p < length c.loop-p.growing.order = omega (arith, more, c.len.ensures) in
    record {
      same = walk_next c.args.images.now (length c.args.images.now) c.loop-p.p c.loop-p.growing.order c.in_ok-growing-2.growing.order (order_of c.args.images.now) below inside (rw c.as_slice.ensures at c.in_ok-growing-2.ensures.is) c.loop-p.invariant.same;
      growing = c.in_ok-growing-2.ensures.kept;
    }
