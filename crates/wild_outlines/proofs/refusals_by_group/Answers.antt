use Rattle.wild_outlines.proofs.Common.{changed_layout, group_errors}
use Rattle.wild_outlines.proofs.ChangedItems.{found_at, outline-changed, same_by_outline}
use Rattle.wild_outlines.proofs.ChangedLemmas.{faults-refused}
use Rattle.wild_outlines.proofs.GroupsFaults.{group_errors-outline}
use Rattle.wild_outlines.proofs.refusals_by_group.Goals as goal

pub returns : goal.returns
unfolding found_at
returns c =
    λ l c s g f found n at in_group none.
    (let e = outline-changed l c s found n in
    faults-refused l c s (record { found = found_at l c s g f found at in_group; long = n; same = e }) none (λ i h. same_by_outline (λ k. group_errors k i h) (λ k. group_errors-outline k i h) l (changed_layout l c) e))
