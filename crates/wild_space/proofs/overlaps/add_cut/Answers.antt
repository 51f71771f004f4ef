use Rattle.std.proofs.Common.{◌<◌, ◌++◌, length, arith}
use Rattle.wild_words.specs.declared.extents.Extent.{Extent}
use Rattle.wild_space.specs.Counts.{cut}
use Rattle.wild_space.proofs.CountLemmas.{cut_next, cut_done}
use Rattle.wild_space.proofs.overlaps.add_cut.Goals as goal

pub loop-extent-preserved : goal.loop-extent-preserved
loop-extent-preserved c =
    let d : Extent = record { start = 0; end = 0 } in
    let test = c.loop-extent-test.true in
    let below : c.loop-extent.extent-index < length c.args.extents.now = omega (arith, test) in
    let to = c.in_ok-reach.ensures.reach in
    let low = c.requires c.loop-extent.extent-index d below in
    let before = c.loop-extent.invariant.1 in
    (cut_next c.loop-extent.reach c.in_ok-reach.reach c.args.extents.now c.loop-extent.extent-index d c.loop-extent.all.items c.add_kept.new.all.items (c.args.all.now.items ++ cut 0 c.args.extents.now) below c.in_ok-reach.ensures.kept to c.loop-extent.invariant.0, omega (arith, to, low, before))

pub returns : goal.returns
returns c = cut_done c.loop-extent.reach c.args.extents.now c.loop-extent.extent-index c.loop-extent.all.items (c.args.all.now.items ++ cut 0 c.args.extents.now) c.loop-extent-test.false c.loop-extent.invariant.0
