use Rattle.std.proofs.Common.{◌≡◌, ℕ, List, subst, map, rules}
use Rattle.std.specs.List.Sorted.{IsPermutation}
use Rattle.std.proofs.lemmas.List.Sorted.{IsNonDecreasingBy-from_sort_by_key}
use Rattle.wild_loader.specs.Index.{starts_and_indices}
use Rattle.wild_loader.specs.Runs.{extent_of}
use Rattle.wild_loader.proofs.IndexLemmas.{index-made}
use Rattle.wild_loader.proofs.index.make_index.Goals as goal

pub returns : goal.returns
returns c =
    let e : c.in_ok-index.index.items ≡ starts_and_indices 0 (map extent_of c.args.runs.now) = cc (c.in_ok-index.ensures) in
    let P : List (ℕ × ℕ) → Type 0 = λ xs. IsPermutation xs c.sort_unstable_by_key.new.self.items in
    index-made c.args.runs.now c.sort_unstable_by_key.new.self.items c.requires (subst P e c.sort_unstable_by_key.ensures.permutation) (IsNonDecreasingBy-from_sort_by_key (λ (s : ℕ × ℕ). s.0) _ c.sort_unstable_by_key.ensures.sorted (λ a r q k. search rules))
