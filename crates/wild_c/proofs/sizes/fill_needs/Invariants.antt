use Rattle.std.proofs.Common.{◌≡◌, ℕ, ◌<◌, get_or, length}
use Rattle.std.specs.Prelude.{◌/◌, ◌%◌}
use Rattle.wild_needs.specs.Needs.{needs}
use Rattle.wild_c.proofs.sizes.fill_needs.Given as goal

abbrev pub invariant-loop-k : goal.invariant-loop-k
invariant-loop-k l = record {
  each : (j : ℕ) → j < l.k → get_or l.sizes j 0 ≡ needs l.layout (j % length l.layout.parts) (j / length l.layout.parts);
  same : length l.sizes ≡ length l.initial.sizes;
}
