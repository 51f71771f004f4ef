use Rattle.wild_image.proofs.Common.{◌≡◌, take, flat_map, overlay_prefix, sorted_pieces, sorted_owned}
use Rattle.wild_image.proofs.AppendLemmas.{IsPlacedAfter}
use Rattle.wild_image.proofs.append.append_sorted.Given as goal

abbrev pub invariant-loop-entry : goal.invariant-loop-entry
invariant-loop-entry l =
    (l.out ≡ overlay_prefix (flat_map (sorted_pieces l.layout) (take l.entry-index l.layout.sorted)) l.initial.out)
    × IsPlacedAfter (sorted_owned l.layout) l.layout.sorted l.bytes l.rest l.entry-index
