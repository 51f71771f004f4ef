use Rattle.std.proofs.Common.{ℕ, ◌+◌, ◌<◌, ◌≤◌}
use Rattle.wild_shards.specs.Ranges.{Fits}
use Rattle.wild_shards.proofs.ranges.tail_fits.Given as goal

abbrev pub invariant-loop-index : goal.invariant-loop-index
invariant-loop-index g l =
    (j : ℕ) → l.index ≤ j → j < l.end → l.last < g.O.Offsets.offset l.offsets j + 10 → Fits l.limit (g.O.Offsets.offset l.offsets j) (g.S.Sizes.size l.sizes j)
