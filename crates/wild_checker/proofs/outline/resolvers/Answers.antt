use Rattle.wild_checker.proofs.Common.{ℕ, List, subst, sym}
use Rattle.std.specs.List.Sorted.{IsNonDecreasing}
use Rattle.std.proofs.lemmas.List.Sorted.{IsNonDecreasingBy-from_sort}
use Rattle.wild_checker.proofs.outline.resolvers.Goals as goal

pub returns-clause-ascend : goal.returns-clause-ascend
returns-clause-ascend c =
    let P : List ℕ → Type 0 = λ xs. IsNonDecreasing xs in
    subst P (sym c.from_vec.ensures) (IsNonDecreasingBy-from_sort (λ (x : ℕ). x) _ c.sort_unstable.ensures.sorted)
