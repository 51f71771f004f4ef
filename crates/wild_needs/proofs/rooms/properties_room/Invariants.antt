use Rattle.std.proofs.Common.{◌≡◌, ◌+◌, ◌-◌, ◌^◌, ◌<◌, drop, min}
use Rattle.wild_types.specs.Lists.{total}
use Rattle.wild_needs.specs.Needs.{gnu_note_size, property_room}
use Rattle.wild_needs.proofs.rooms.properties_room.Given as goal

abbrev pub invariant-loop-property : goal.invariant-loop-property
invariant-loop-property l = record {
  rest : min (2 ^ 64 - 1) (l.room + total property_room (drop l.property-index l.properties)) ≡ min (2 ^ 64 - 1) (gnu_note_size + total property_room l.properties);
  small : l.room < 2 ^ 64;
}
