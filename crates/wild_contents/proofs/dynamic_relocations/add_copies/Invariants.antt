use Rattle.std.proofs.Common.{◌≡◌, ◌++◌, take}
use Rattle.std.specs.List.{flat_map}
use Rattle.wild_contents.specs.General.{copy_bytes}
use Rattle.wild_contents.proofs.dynamic_relocations.add_copies.Given as goal

abbrev pub invariant-loop-symbol : goal.invariant-loop-symbol
invariant-loop-symbol g l = l.bytes ≡ l.initial.bytes ++ flat_map (copy_bytes l.resolved.layout.now) (take l.symbol-index l.symbol-items)
