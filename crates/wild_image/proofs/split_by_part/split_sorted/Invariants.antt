use Rattle.wild_image.proofs.Common.{◌≡◌, [], ◌++◌, ℕ, ◌<◌, length, get_or, take, flat_map, sorted_owned, sorted_in}
use Rattle.wild_image.proofs.AppendLemmas.{IsPlacedAfter}
use Rattle.wild_image.proofs.split_by_part.split_sorted.Given as goal

abbrev pub invariant-loop-entry : goal.invariant-loop-entry
invariant-loop-entry l =
    ((k : ℕ) → k < length l.parts → get_or l.parts k [] ≡ get_or l.initial.parts k [] ++ flat_map (sorted_in l.layout k) (take l.entry-index l.layout.sorted))
    × IsPlacedAfter (sorted_owned l.layout) l.layout.sorted l.bytes l.rest l.entry-index
