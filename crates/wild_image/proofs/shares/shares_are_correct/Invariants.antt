use Rattle.wild_image.proofs.Common.{◌≡◌, ℕ, ◌<◌, [], Some, slice_get, Part, share_faults}
use Rattle.wild_image.proofs.shares.shares_are_correct.Given as goal

abbrev pub invariant-loop-i : goal.invariant-loop-i
invariant-loop-i l = (k : ℕ) (p : Part) → k < l.i → slice_get l.layout.parts k ≡ Some p → share_faults l.layout k p l.index l.group ≡ []
