use Rattle.wild_image.proofs.Common.{◌≡◌, [], ◌++◌, ℕ, ◌<◌, length, get_or, take, flat_map, merged_bytes, merged_in}
use Rattle.wild_image.proofs.AppendLemmas.{IsPlacedAfter}
use Rattle.wild_image.proofs.split_by_part.split_strings.Given as goal

abbrev pub invariant-loop-merged : goal.invariant-loop-merged
invariant-loop-merged l =
    ((k : ℕ) → k < length l.parts → get_or l.parts k [] ≡ get_or l.initial.parts k [] ++ flat_map (merged_in l.layout k) (take l.merged-index l.layout.merged))
    × IsPlacedAfter (merged_bytes) l.layout.merged l.bytes l.rest l.merged-index
