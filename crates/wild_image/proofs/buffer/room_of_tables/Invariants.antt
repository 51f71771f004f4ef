use Rattle.wild_image.proofs.Common.{◌≡◌, ℕ, ◌<◌, Some, slice_get, Part, given, total}
use Rattle.wild_image.specs.Pieces.{written}
use Rattle.wild_image.proofs.buffer.room_of_tables.Given as goal

abbrev pub invariant-loop-i : goal.invariant-loop-i
invariant-loop-i l = l.room ≡ 0 → (k : ℕ) (p : Part) → k < l.i → slice_get l.layout.parts k ≡ Some p → written l.layout p (total (given k) l.batch.groups.now) ≡ 0
