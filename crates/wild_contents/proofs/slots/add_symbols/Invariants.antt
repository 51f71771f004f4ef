use Rattle.std.proofs.Common.{◌≡◌, ◌++◌, take}
use Rattle.std.specs.List.{flat_map}
use Rattle.wild_contents.specs.FileTables.{symbol_slot_bytes}
use Rattle.wild_contents.proofs.slots.add_symbols.Given as goal

abbrev pub invariant-loop-symbol : goal.invariant-loop-symbol
invariant-loop-symbol l = l.bytes ≡ l.initial.bytes ++ flat_map (symbol_slot_bytes l.part l.layout) (take l.symbol-index l.symbol-items)
