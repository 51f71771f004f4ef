use Rattle.std.proofs.Common.{◌≡◌, ◌+◌, ◌-◌, ◌^◌, ◌<◌, drop, min}
use Rattle.wild_needs.specs.DynamicStrings.{text_room}
use Rattle.wild_types.specs.Lists.{total}
use Rattle.wild_needs.specs.Versions.{definition_names}
use Rattle.wild_needs.proofs.versions.defined_room.Given as goal

abbrev pub invariant-loop-definition : goal.invariant-loop-definition
invariant-loop-definition l = record {
  rest : min (2 ^ 64 - 1) (l.room + total text_room (definition_names (drop l.definition-index l.definitions))) ≡ min (2 ^ 64 - 1) (total text_room (definition_names l.definitions));
  small : l.room < 2 ^ 64;
}
