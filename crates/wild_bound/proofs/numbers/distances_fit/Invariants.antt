use Rattle.wild_bound.proofs.Common.{take, All, ℕ, ℤ, w64, FitsSigned}
use Rattle.wild_bound.proofs.numbers.distances_fit.Given as goal

abbrev pub invariant-loop-pair : goal.invariant-loop-pair
invariant-loop-pair l = All (λ (m : ℕ × ℤ). FitsSigned w64 m.1) (take l.pair-index l.modules)
