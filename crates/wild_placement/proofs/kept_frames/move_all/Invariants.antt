use Rattle.std.proofs.Common.{◌≡◌, ◌++◌, map, take, drop}
use Rattle.wild_placement.specs.PlacedSections.{moved_relocation}
use Rattle.wild_placement.proofs.kept_frames.move_all.Given as goal

abbrev pub invariant-loop-i : goal.invariant-loop-i
invariant-loop-i l = l.relocations ≡ map (moved_relocation l.entry) (take l.i l.initial.relocations) ++ drop l.i l.initial.relocations
