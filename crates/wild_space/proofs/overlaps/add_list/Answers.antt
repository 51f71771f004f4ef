use Rattle.std.proofs.Common.{◌≡◌, ℕ, ◌≤◌, ◌^◌, ◌+◌, ◌++◌, List, subst, sym, ap, ◌∙◌, rules}
use Rattle.std.specs.Prelude.{All}
use Rattle.std.proofs.lemmas.List.Sorted.{All-permutation, IsNonDecreasingBy-from_sort_by_key}
use Rattle.std.proofs.lemmas.Result.{IfOk-weaker}
use Rattle.wild_words.specs.declared.extents.Extent.{Extent}
use Rattle.wild_words.specs.Extents.{total}
use Rattle.wild_space.specs.Counts.{has_number, cut}
use Rattle.wild_space.proofs.CountLemmas.{list_added}
use Rattle.wild_space.proofs.overlaps.add_list.Goals as goal

pub add_cut-requires : goal.add_cut-requires
add_cut-requires c =
    let sorted = c.sort_unstable_by_key.new.self.items in
    let moved = c.sort_unstable_by_key.ensures.permutation in
    subst (λ (q : List Extent). All (λ (e : Extent). e.end ≤ 2 ^ 64) q) (sym c.as_slice.ensures.value) (All-permutation (λ (e : Extent). e.end ≤ 2 ^ 64) c.args.list.items sorted moved c.requires)

pub returns : goal.returns
returns c =
    let sorted = c.sort_unstable_by_key.new.self.items in
    let moved = c.sort_unstable_by_key.ensures.permutation in
    let rising = IsNonDecreasingBy-from_sort_by_key (λ (e : Extent). e.start) _ c.sort_unstable_by_key.ensures.sorted (λ a r q k. search rules) in
    let whole = c.add_cut.new.all.items in
    let before = c.args.all.now.items in
    let P : Unit {0} → Type 0 = λ u. whole ≡ before ++ cut 0 c.as_slice.result.now in
    let Q : Unit {0} → Type 0 = λ u. (a : ℕ) → total a whole ≡ total a before + has_number c.args.list.items a in
    IfOk-weaker c.add_cut.result P Q (λ u is. list_added before whole c.args.list.items sorted moved rising (is ∙ ap (λ (q : List Extent). before ++ cut 0 q) c.as_slice.ensures.value)) c.add_cut.ensures
