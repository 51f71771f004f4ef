use Rattle.std.proofs.Common.{◌≡◌, ◌+◌, ◌-◌, ◌^◌, ◌<◌, drop, min}
use Rattle.wild_needs.specs.DynamicStrings.{text_room, listed_names}
use Rattle.wild_types.specs.Lists.{total}
use Rattle.wild_needs.proofs.strings.listed_room.Given as goal

abbrev pub invariant-loop-symbol : goal.invariant-loop-symbol
invariant-loop-symbol l = record {
  rest : min (2 ^ 64 - 1) (l.sum + total text_room (listed_names (drop l.symbol-index l.listed))) ≡ min (2 ^ 64 - 1) (total text_room (listed_names l.listed));
  small : l.sum < 2 ^ 64;
}
