use Rattle.std.proofs.Common.{◌≡◌, ◌+◌, ◌-◌, ◌^◌, ◌<◌, drop, min}
use Rattle.std.specs.List.{filter}
use Rattle.wild_needs.specs.DynamicStrings.{text_room, symbol_names}
use Rattle.wild_needs.specs.DynamicSymbols.{is_undefined_entry}
use Rattle.wild_types.specs.Lists.{total}
use Rattle.wild_needs.proofs.strings.undefined_room.Given as goal

abbrev pub invariant-loop-symbol : goal.invariant-loop-symbol
invariant-loop-symbol l = record {
  rest : min (2 ^ 64 - 1) (l.sum + total text_room (symbol_names (filter (is_undefined_entry l.role) (drop l.symbol-index l.symbols)))) ≡ min (2 ^ 64 - 1) (total text_room (symbol_names (filter (is_undefined_entry l.role) l.symbols)));
  small : l.sum < 2 ^ 64;
}
