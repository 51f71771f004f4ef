use Rattle.std.proofs.Common.{◌<◌, ◌≤◌, length, arith, ap, sym, Ok}
use Rattle.std.specs.Int.{w64}
use Rattle.std.proofs.lemmas.Int.{to_z-of_z}
use Rattle.wild_space.specs.Binds.{modules_of}
use Rattle.wild_space.proofs.Loops.{modules_next, modules_done}
use Rattle.wild_space.proofs.worlds.modules_of.Goals as goal

pub loop-n-preserved : goal.loop-n-preserved
loop-n-preserved c =
    let test = c.loop-n-test.true in
    let xs = c.args.space.now.images.now in
    let order = c.args.space.now.order in
    let below : c.loop-n.n < length order = omega (arith, test) in
    rw (c.in_ok-push-2.ensures.ok, to_z-of_z w64 c.distance.result c.distance.ensures.fits) (modules_next xs c.loop-n.n order c.distance.result c.loop-n.modules (modules_of xs order) below c.distance.ensures.is c.loop-n.invariant)

pub returns : goal.returns
returns c =
    let xs = c.args.space.now.images.now in
    let order = c.args.space.now.order in
    let test = c.loop-n-test.false in
    let many = c.len-n-end.ensures in
    let past : length order ≤ c.loop-n.n = omega (arith, test, many) in
    ap Ok (sym (modules_done xs c.loop-n.n order c.loop-n.modules (modules_of xs order) past c.loop-n.invariant))
