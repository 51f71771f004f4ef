use Rattle.wild_outlines.proofs.Common.{changed_layout, group_errors}
use Rattle.wild_outlines.proofs.ChangedItems.{outline-changed, same_by_outline}
use Rattle.wild_outlines.proofs.ChangedLemmas.{none_before, errors-changed}
use Rattle.wild_outlines.proofs.ClausesLemmas.{clauses_hold}
use Rattle.wild_outlines.proofs.SharesLemmas.{shares_kept}
use Rattle.wild_outlines.proofs.GroupsFaults.{group_errors-outline}
use Rattle.wild_outlines.proofs.changed_errors.Goals as goal

pub returns : goal.returns
returns c =
    λ l c s g none m at.
    (let e = outline-changed l c s m.found m.same_length in
    errors-changed l c g at none (clauses_hold l c s m (none_before l none).0) (shares_kept l c s m.found m.same_length m.counts).errors
    (λ i h. same_by_outline (λ k. group_errors k i h) (λ k. group_errors-outline k i h) l (changed_layout l c) e))
