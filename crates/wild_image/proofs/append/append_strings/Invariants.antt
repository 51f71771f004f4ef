use Rattle.wild_image.proofs.Common.{◌≡◌, take, flat_map, overlay_prefix, merged_piece, merged_bytes}
use Rattle.wild_image.proofs.AppendLemmas.{IsPlacedAfter}
use Rattle.wild_image.proofs.append.append_strings.Given as goal

abbrev pub invariant-loop-merged : goal.invariant-loop-merged
invariant-loop-merged l =
    (l.out ≡ overlay_prefix (flat_map (merged_piece l.layout) (take l.merged-index l.layout.merged)) l.initial.out)
    × IsPlacedAfter (merged_bytes) l.layout.merged l.bytes l.rest l.merged-index
