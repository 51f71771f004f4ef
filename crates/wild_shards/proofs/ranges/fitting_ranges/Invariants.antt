use Rattle.std.proofs.Common.{◌≡◌, ℕ, ◌+◌, ◌<◌, map}
use Rattle.std.specs.List.{range_with_len}
use Rattle.wild_shards.specs.Ranges.{cut, shard, output_end, TailFits}
use Rattle.wild_shards.proofs.ranges.fitting_ranges.Given as goal

abbrev pub invariant-loop-index : goal.invariant-loop-index
invariant-loop-index g l =
    (l.ranges.items ≡ map (shard (g.O.Offsets.offset l.offsets) l.count l.output l.shards) (range_with_len 0 l.index))
    × ((i : ℕ) → i < l.index → TailFits (g.O.Offsets.offset l.offsets) (g.S.Sizes.size l.sizes) (cut l.count l.shards i) (cut l.count l.shards (i + 1)) (output_end (g.O.Offsets.offset l.offsets) l.count l.output l.shards i))
