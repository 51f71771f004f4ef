use Rattle.wild_image.proofs.Common.{◌≡◌, [], take, flat_map, overlay_prefix, batch_errors, batch_pieces}
use Rattle.wild_image.proofs.BatchLemmas.{IsNext}
use Rattle.wild_image.proofs.append.append_all.Given as goal

abbrev pub invariant-loop-i : goal.invariant-loop-i
invariant-loop-i l =
    (flat_map (batch_errors l.layout) (take l.i l.batches) ≡ [])
    × (l.out ≡ overlay_prefix (flat_map (batch_pieces l.layout) (take l.i l.batches)) l.initial.out)
    × IsNext l.layout l.batches l.i l.starts
