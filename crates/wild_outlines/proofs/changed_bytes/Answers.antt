use Rattle.wild_outlines.proofs.ChangedItems.{found_group, found_at, outline-changed, same_by_outline}
use Rattle.wild_outlines.proofs.ChangedLemmas.{bytes-changed}
use Rattle.wild_outlines.proofs.GroupsPieces.{group_pieces-outline}
use Rattle.wild_outlines.proofs.PaddingLemmas.{padding-outline}
use Rattle.wild_outlines.proofs.Common.{changed_layout, group_pieces, padding}
use Rattle.wild_outlines.proofs.changed_bytes.Goals as goal

pub returns : goal.returns
unfolding found_group found_at
returns c =
    λ l c s g found n at laid after.
    (let e = outline-changed l c s found n in
    bytes-changed l c s (found_group l c s g found at) n e laid after (λ i h. same_by_outline (λ k. group_pieces k i h) (λ k. group_pieces-outline k i h) l (changed_layout l c) e) (same_by_outline padding padding-outline l (changed_layout l c) e))
