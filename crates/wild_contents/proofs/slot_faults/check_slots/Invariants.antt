use Rattle.std.proofs.Common.{◌≡◌, [], take}
use Rattle.wild_layout.specs.Faults.{flat_map_from, symbol_errors}
use Rattle.wild_contents.proofs.slot_faults.check_slots.Given as goal

abbrev pub invariant-loop-i : goal.invariant-loop-i
invariant-loop-i l = flat_map_from (symbol_errors l.layout l.place.group l.place.file) l.file.first_symbol (take l.i l.symbol-items) ≡ []
