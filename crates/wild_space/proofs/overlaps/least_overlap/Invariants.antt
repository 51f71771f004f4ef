use Rattle.std.proofs.Common.{◌≡◌, ℕ, take}
use Rattle.wild_words.specs.Extents.{total}
use Rattle.wild_space.specs.Counts.{count}
use Rattle.wild_space.specs.Overlaps.{placed}
use Rattle.wild_space.proofs.overlaps.least_overlap.Given as goal

abbrev pub invariant-loop-n : goal.invariant-loop-n
invariant-loop-n l = (a : ℕ) → total a l.all.items ≡ count a (placed l.space.images.now (take l.n l.space.order))
