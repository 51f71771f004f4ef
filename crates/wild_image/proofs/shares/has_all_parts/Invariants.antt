use Rattle.wild_image.proofs.Common.{◌≡◌, ℕ, ◌<◌, true, Some, slice_get, Part, has_all}
use Rattle.wild_image.proofs.shares.has_all_parts.Given as goal

abbrev pub invariant-loop-i : goal.invariant-loop-i
invariant-loop-i l = (k : ℕ) (p : Part) → k < l.i → slice_get l.layout.parts k ≡ Some p → has_all k p l.group ≡ true
