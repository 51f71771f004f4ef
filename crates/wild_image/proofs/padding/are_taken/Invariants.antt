use Rattle.wild_image.proofs.Common.{◌≡◌, ℕ, ◌<◌, ◌≤◌, true}
use Rattle.wild_image.specs.Padding.{is_taken}
use Rattle.wild_image.proofs.padding.are_taken.Given as goal

abbrev pub invariant-loop-k : goal.invariant-loop-k
invariant-loop-k l = l.all ≡ true → (j : ℕ) → l.at ≤ j → j < l.k → is_taken l.taken j ≡ true
