use Rattle.std.proofs.Common.{◌≡◌, ◌+◌, ◌-◌, ◌^◌, take}
use Rattle.std.specs.Prelude.{min}
use Rattle.wild_types.specs.Lists.{total}
use Rattle.wild_needs.specs.Needs.{gnu_note_size, property_room}
use Rattle.wild_contents.proofs.notes.properties_room.Given as goal

abbrev pub invariant-loop-property : goal.invariant-loop-property
invariant-loop-property l = l.room ≡ min (2 ^ 64 - 1) (gnu_note_size + total property_room (take l.property-index l.properties))
