use Rattle.std.proofs.Common.{◌≡◌, ◌++◌, map, take, drop}
use Rattle.wild_placement.specs.PlacedInputs.{placed_at}
use Rattle.wild_placement.proofs.tables.placed.Given as goal

abbrev pub invariant-loop-i : goal.invariant-loop-i
invariant-loop-i l = l.placed.items ≡ map (placed_at l.target) (take l.i l.target.relocations) ++ drop l.i l.target.relocations
