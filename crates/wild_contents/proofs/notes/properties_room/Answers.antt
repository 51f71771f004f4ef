use Rattle.std.proofs.Common.{arith}
use Rattle.wild_contents.proofs.NoteLemmas.{room_more}
use Rattle.wild_contents.proofs.notes.properties_room.Goals as goal

pub loop-property-preserved : goal.loop-property-preserved
loop-property-preserved c =
    let m = room_more c.args.properties.now c.loop-property.property-index _ _ c.loop-property-test.true c.property_size.ensures in
    let before = c.loop-property.invariant in
    omega (arith, m, before, c.saturating_add-room.ensures)
