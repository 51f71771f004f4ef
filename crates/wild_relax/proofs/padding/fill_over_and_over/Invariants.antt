use Rattle.std.proofs.Common.{◌≡◌, ◌<◌, ℕ, length, get_or}
use Rattle.wild_relax.specs.Padding.{repeated_byte}
use Rattle.wild_relax.proofs.padding.fill_over_and_over.Given as goal

abbrev pub invariant-loop-i : goal.invariant-loop-i
invariant-loop-i l = record {
  filled : (k : ℕ) → k < l.i → get_or l.room k 0 ≡ repeated_byte l.bytes k;
  length : length l.room ≡ length l.initial.room;
}
