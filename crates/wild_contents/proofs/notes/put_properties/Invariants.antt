use Rattle.std.proofs.Common.{◌≡◌, ◌+◌, ◌++◌, length, take, flat_map}
use Rattle.wild_types.specs.Lists.{total}
use Rattle.wild_needs.specs.Needs.{gnu_note_size, property_room}
use Rattle.wild_layout.specs.Notes.{property_bytes}
use Rattle.wild_contents.proofs.notes.put_properties.Given as goal

abbrev pub invariant-loop-property : goal.invariant-loop-property
invariant-loop-property l = record {
  at : l.at ≡ gnu_note_size + total property_room (take l.property-index l.properties);
  size : length l.out ≡ gnu_note_size + total property_room l.properties;
  bytes : take l.at l.out ≡ take gnu_note_size l.initial.out ++ flat_map property_bytes (take l.property-index l.properties);
}
