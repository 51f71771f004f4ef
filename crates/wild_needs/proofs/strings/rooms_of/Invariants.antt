use Rattle.std.proofs.Common.{◌≡◌, ◌+◌, ◌*◌, ◌^◌, ◌≤◌, drop}
use Rattle.wild_needs.specs.DynamicStrings.{text_room}
use Rattle.wild_types.specs.Lists.{total}
use Rattle.wild_needs.proofs.strings.rooms_of.Given as goal

abbrev pub invariant-loop-text : goal.invariant-loop-text
invariant-loop-text l = record {
  rest : l.sum + total text_room (drop l.text-index l.texts) ≡ total text_room l.texts;
  small : l.sum ≤ l.text-index * 2 ^ 64;
}
