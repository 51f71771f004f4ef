use Rattle.wild_image.proofs.Common.{◌≡◌, ℕ, ◌<◌, true, Some, slice_get, ShareCheck}
use Rattle.wild_image.proofs.share_job.all_are_correct.Given as goal

abbrev pub invariant-loop-check : goal.invariant-loop-check
invariant-loop-check l = (i : ℕ) (o : ShareCheck) → i < l.check-index → slice_get l.checks i ≡ Some o → o.is_correct ≡ true
