use Rattle.wild_image.proofs.Common.{◌≡◌, take, flat_map, overlay_prefix, thunk_bytes, thunk_piece}
use Rattle.wild_image.proofs.AppendLemmas.{IsPlacedAfter}
use Rattle.wild_image.proofs.append.append_all_thunks.Given as goal

abbrev pub invariant-loop-thunk : goal.invariant-loop-thunk
invariant-loop-thunk l =
    (l.out ≡ overlay_prefix (flat_map (thunk_piece l.layout) (take l.thunk-index l.thunk-items)) l.initial.out)
    × IsPlacedAfter (thunk_bytes l.layout) l.thunk-items l.bytes l.rest l.thunk-index
