use Rattle.std.proofs.Common.{List, subst, rules}
use Rattle.std.specs.List.Sorted.{IsPermutation}
use Rattle.std.proofs.lemmas.List.Sorted.{IsNonDecreasingBy-from_sort_by_key}
use Rattle.wild_terms.specs.declared.load.TermPatch.{TermPatch}
use Rattle.wild_terms.proofs.PatchLemmas.{ascending}
use Rattle.wild_terms.proofs.memory.TermMemory.new.Goals as goal

pub invariant_of-result : goal.invariant_of-result
invariant_of-result c =
    let P : List TermPatch → Type 0 = λ xs. IsPermutation xs c.sort_unstable_by_key.new.self.items in
    ascending c.args.patches c.sort_unstable_by_key.new.self.items c.requires (subst P c.into_vec-patches.ensures c.sort_unstable_by_key.ensures.permutation) (IsNonDecreasingBy-from_sort_by_key (λ (p : TermPatch). p.place) _ c.sort_unstable_by_key.ensures.sorted (λ a r q k. search rules))

pub returns-clause-ascend : goal.returns-clause-ascend
returns-clause-ascend c =
    let P : List TermPatch → Type 0 = λ xs. IsPermutation xs c.sort_unstable_by_key.new.self.items in
    ascending c.args.patches c.sort_unstable_by_key.new.self.items c.requires (subst P c.into_vec-patches.ensures c.sort_unstable_by_key.ensures.permutation) (IsNonDecreasingBy-from_sort_by_key (λ (p : TermPatch). p.place) _ c.sort_unstable_by_key.ensures.sorted (λ a r q k. search rules))
