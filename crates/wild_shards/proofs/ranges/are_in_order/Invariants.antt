use Rattle.std.proofs.Common.{◌≡◌, ℕ, ◌-◌, ◌<◌, ◌≤◌}
use Rattle.wild_shards.proofs.ranges.are_in_order.Given as goal

abbrev pub invariant-loop-index : goal.invariant-loop-index
invariant-loop-index g l =
    ((i j : ℕ) → i ≤ j → j < l.index → g.O.Offsets.offset l.offsets i ≤ g.O.Offsets.offset l.offsets j)
    × ((k : ℕ) → k < l.index → g.O.Offsets.offset l.offsets k ≤ l.previous)
    × ((k : ℕ) → k < l.index → g.O.Offsets.offset l.offsets k ≤ l.output)
    × (l.index ≡ 0 → l.previous ≡ 0)
    × (0 < l.index → l.previous ≡ g.O.Offsets.offset l.offsets (l.index - 1))
