use Rattle.wild_image.proofs.Common.{◌≡◌, ℕ, ◌+◌, ◌<◌, Some, slice_get, Group, HasCorrectShares}
use Rattle.wild_image.proofs.shares.batch_is_correct.Given as goal

abbrev pub invariant-loop-i : goal.invariant-loop-i
invariant-loop-i l = (j : ℕ) (g : Group) → j < l.i → slice_get l.batch.groups.now j ≡ Some g → HasCorrectShares l.layout (l.batch.first + j) g
