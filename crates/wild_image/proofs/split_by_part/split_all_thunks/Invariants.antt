use Rattle.wild_image.proofs.Common.{◌≡◌, [], ◌++◌, ℕ, ◌<◌, length, get_or, take, flat_map, thunk_bytes, thunk_in}
use Rattle.wild_image.proofs.AppendLemmas.{IsPlacedAfter}
use Rattle.wild_image.proofs.split_by_part.split_all_thunks.Given as goal

abbrev pub invariant-loop-thunk : goal.invariant-loop-thunk
invariant-loop-thunk l =
    ((k : ℕ) → k < length l.parts → get_or l.parts k [] ≡ get_or l.initial.parts k [] ++ flat_map (thunk_in l.layout k) (take l.thunk-index l.thunk-items))
    × IsPlacedAfter (thunk_bytes l.layout) l.thunk-items l.bytes l.rest l.thunk-index
