use Rattle.wild_outlines.proofs.Common.{◌∙◌, changed_layout, group_errors}
use Rattle.wild_outlines.proofs.ChangedItems.{outline-changed, same_by_outline}
use Rattle.wild_outlines.proofs.ChangedLemmas.{group_without_faults}
use Rattle.wild_outlines.proofs.GroupsFaults.{group_errors-outline}
use Rattle.wild_outlines.proofs.others_have_none.Goals as goal

pub returns : goal.returns
returns c =
    λ l c s j g found n none at. same_by_outline (λ k. group_errors k j g) (λ k. group_errors-outline k j g) l (changed_layout l c) (outline-changed l c s found n) ∙ group_without_faults l none j g at
