-- The ranges of the shards, from offsets and sizes by index.
use Rattle.std.specs.Prelude.{◌≡◌, ℕ, ◌+◌, ◌-◌, ◌*◌, ◌/◌, ◌<◌, ◌≤◌, ◌==◌, if◌then◌else◌, List, map, Option, Some, None}
use Rattle.std.specs.List.{range_with_len}
use Rattle.wild_shards.specs.declared.ranges.DebugRelocationShardRange.{DebugRelocationShardRange}

-- the index of the first relocation of shard i of n
abbrev pub cut : ℕ → ℕ → ℕ → ℕ
cut count n i = count * i / n

-- the offset at which the output of shard i begins
abbrev pub output_start : (ℕ → ℕ) → ℕ → ℕ → ℕ → ℕ
output_start offset count n i = if i == 0 then 0 else offset (cut count n i)

-- the offset at which it ends
abbrev pub output_end : (ℕ → ℕ) → ℕ → ℕ → ℕ → ℕ → ℕ
output_end offset count output n i = if i + 1 == n then output else offset (cut count n (i + 1))

-- the ranges of shard i
abbrev pub shard : (ℕ → ℕ) → ℕ → ℕ → ℕ → ℕ → DebugRelocationShardRange
shard offset count output n i = record {
  relocations = record { start = cut count n i; end = cut count n (i + 1) };
  output = record { start = output_start offset count n i; end = output_end offset count output n i };
}

-- offsets ascend
abbrev pub AreSorted : (ℕ → ℕ) → ℕ → Type 0
AreSorted offset count = (i j : ℕ) → i ≤ j → j < count → offset i ≤ offset j

-- no offset is past the end of the output
abbrev pub AreWithin : (ℕ → ℕ) → ℕ → ℕ → Type 0
AreWithin offset count output = (j : ℕ) → j < count → offset j ≤ output

-- the size is known and at most 10, and a field of that size ends at or before the limit
abbrev pub Fits : ℕ → ℕ → Option ℕ → Type 0
Fits limit at None = ⊥
Fits limit at (Some s) = (s ≤ 10) × (at + s ≤ limit)

-- the last fields of a shard fit: those whose offset is less than 10 bytes before the last offset
abbrev pub TailFits : (ℕ → ℕ) → (ℕ → Option ℕ) → ℕ → ℕ → ℕ → Type 0
TailFits offset size start end limit = (j : ℕ) → start ≤ j → j < end → offset (end - 1) < offset j + 10 → Fits limit (offset j) (size j)

-- the conditions under which n shards may run in parallel
pub record AreShards (offset : ℕ → ℕ) (size : ℕ → Option ℕ) (count output n : ℕ) : Type 0 where
  pub several : 2 ≤ n
  pub sorted : AreSorted offset count
  pub within : AreWithin offset count output
  pub tails : (i : ℕ) → i < n → TailFits offset size (cut count n i) (cut count n (i + 1)) (output_end offset count output n i)

-- the ranges if the shards may run in parallel, else none
abbrev pub AreRanges : (ℕ → ℕ) → (ℕ → Option ℕ) → ℕ → ℕ → ℕ → Option (List DebugRelocationShardRange) → Type 0
AreRanges offset size count output n None = AreShards offset size count output n → ⊥
AreRanges offset size count output n (Some v) = AreShards offset size count output n × (v ≡ map (shard offset count output n) (range_with_len 0 n))
