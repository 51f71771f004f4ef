use Rattle.std.proofs.Common.{◌≡◌, ◌+◌, ◌-◌, ◌^◌, ◌<◌, drop, min}
use Rattle.wild_needs.specs.DynamicStrings.{text_room}
use Rattle.wild_types.specs.Lists.{total}
use Rattle.wild_needs.specs.Versions.{needed_names}
use Rattle.wild_needs.proofs.versions.needed_room.Given as goal

abbrev pub invariant-loop-version : goal.invariant-loop-version
invariant-loop-version l = record {
  rest : min (2 ^ 64 - 1) (l.room + total text_room (needed_names (drop l.version-index l.versions))) ≡ min (2 ^ 64 - 1) (total text_room (needed_names l.versions));
  small : l.room < 2 ^ 64;
}
