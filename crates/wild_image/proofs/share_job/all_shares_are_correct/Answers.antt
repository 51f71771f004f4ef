use Rattle.wild_image.proofs.Common.{◌≡◌, ℕ, true, List, length, ap, arith, subst, sym, Some, slice_get, Group, Batch, ShareCheck, AreBatches}
use Rattle.wild_image.proofs.ShareLemmas.{checked_shares}
use Rattle.wild_image.proofs.share_job.all_shares_are_correct.Goals as goal

pub invariant_of-job-clause-batches_are : goal.invariant_of-job-clause-batches_are
invariant_of-job-clause-batches_are g c =
    let bs = c.as_slice-batches.result.now in
    let cut = subst (λ (xs : List Batch). AreBatches c.as_slice-groups.result.now xs) (sym c.as_slice-batches.ensures.value) c.in_ok-cut.ensures.batches in
    subst (λ (gs : List Group). AreBatches gs bs) c.as_slice-groups.ensures cut

pub invariant_of-job-clause-few : goal.invariant_of-job-clause-few
invariant_of-job-clause-few g c =
    let least = c.in_ok-cut.ensures.few in
    let one = ap length c.as_slice-batches.ensures.value in
    let two = ap length c.as_slice-groups.ensures in
    omega (arith, least, one, two, c.requires.few)

pub returns : goal.returns
returns g c = λ correct.
    (let bs = c.as_slice-batches.result.now in
    let cut = subst (λ (xs : List Batch). AreBatches c.as_slice-groups.result.now xs) (sym c.as_slice-batches.ensures.value) c.in_ok-cut.ensures.batches in
    let all = subst (λ (gs : List Group). AreBatches gs bs) c.as_slice-groups.ensures cut in
    let found = subst (λ (xs : List ShareCheck). (i : ℕ) (o : ShareCheck) → slice_get xs i ≡ Some o → o.is_correct ≡ true) c.as_slice.ensures (c.all_are_correct.ensures correct) in
    checked_shares c.args.layout.now bs c.in_ok-checks.checks.pieces all c.in_ok-checks.ensures.0 c.in_ok-checks.ensures.1 found)
