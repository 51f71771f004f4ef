use Rattle.std.proofs.Common.{take}
use Rattle.wild_frames.proofs.RelocationLemmas.{Before}
use Rattle.wild_frames.proofs.relocations.count_before.Given as goal

abbrev pub invariant-loop-i : goal.invariant-loop-i
invariant-loop-i l = Before l.end (take l.i l.rest)
