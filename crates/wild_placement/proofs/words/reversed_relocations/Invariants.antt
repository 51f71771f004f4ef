use Rattle.std.proofs.Common.{◌≡◌, ◌++◌, map, take, drop}
use Rattle.wild_placement.specs.ReversedWords.{reversed_offset}
use Rattle.wild_placement.proofs.words.reversed_relocations.Given as goal

abbrev pub invariant-loop-i : goal.invariant-loop-i
invariant-loop-i l = l.reversed_section.items ≡ map (reversed_offset l.size) (take l.i l.relocations) ++ drop l.i l.relocations
