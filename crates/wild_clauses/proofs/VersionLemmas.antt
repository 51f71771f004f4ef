-- Versions that are needed, added up over the groups, and the libraries that have them, counted down.
use Rattle.std.proofs.Common.{◌≡◌, ℕ, ◌-◌, ◌^◌, min, inl, inr, List, [], ◌∷◌, length, refl, sym, ap, ◌∙◌, arith}
use Rattle.std.specs.Prelude.{Option, Some, None, Ok, true, ◌+◌, ◌&&◌, option_and_then, nat_le}
use Rattle.std.specs.List.{filter}
use Rattle.std.proofs.lemmas.Bool.{cases_Bool, and_parts, leb-true}
use Rattle.wild_types.specs.declared.file.VersionNeeds.{VersionNeeds}
use Rattle.wild_types.specs.declared.file.File.{File}
use Rattle.wild_types.specs.declared.file.Group.{Group}
use Rattle.wild_types.specs.declared.layout.Layout.{Layout}
use Rattle.wild_plan_rules.specs.Counts.{counts_fit}
use Rattle.wild_types.specs.Lists.{through, total}
use Rattle.wild_types.specs.Lookups.{files_of}
use Rattle.wild_needs.specs.DynamicPlaces.{need_number}
use Rattle.wild_needs.specs.Versions.{needs_of, has_needs, need_count, file_versions, group_versions, versions_needed, versions_fit, most_versions}
use Rattle.wild_plan_rules.specs.VersionTables.{mark_fits, mark_by, mark_step, mark_astray}
use Rattle.wild_plan_rules.specs.ClauseTests.{check_counts}
use Rattle.wild_types.proofs.ListLemmas.{total-append}
use Rattle.wild_needs.proofs.StringLemmas.{length_needed}
use Rattle.wild_plan_rules.proofs.ClauseLemmas.{test_holds}

-- the sum over all files is that over the groups
groups_sum : (gs : List Group) → total group_versions gs ≡ total file_versions (files_of gs)
groups_sum [] = refl
groups_sum (g ∷ gs) = rw (groups_sum gs) (sym (total-append file_versions g.files (files_of gs)))

pub all_versions : (l : Layout) (n : ℕ) → n ≡ min (2 ^ 64 - 1) (total group_versions l.groups) → n ≡ min (2 ^ 64 - 1) (versions_needed l)
all_versions l n h = h ∙ ap (min (2 ^ 64 - 1)) (groups_sum l.groups)

-- behind files whose marks fit, so many fewer are left
pub left_behind : (left next : ℕ) (fs : List File) → through mark_step left fs ≡ Some next → next ≡ left - length (filter has_needs fs)
left_behind left next [] h = let e : left ≡ next = cc in omega (arith, e)
left_behind left next (f ∷ fs) h = by (needs_of f) refl h (λ n e. left_behind n next fs e)
  where
    by : (o : Option VersionNeeds) → needs_of f ≡ o → option_and_then (λ t. through mark_step t fs) (mark_by left o) ≡ Some next → ((n : ℕ) → through mark_step n fs ≡ Some next → next ≡ n - length (filter has_needs fs)) → next ≡ left - length (filter has_needs (f ∷ fs))
    by None e again rest = rw e (rest left again)
    by (Some n) e again rest =
        elim (cases_Bool (mark_fits left n)) [
          | inl t ↦ (let b = rest (left - 1) (rw t at again) in rw e (omega (arith, b)))
          | inr u ↦ cc (rw u at again)
        ]

-- where the counts fit, few libraries have versions
pub few_needs : (l : Layout) → check_counts l ≡ Ok tt → min (2 ^ 64 - 1) (need_count l) ≡ need_count l
unfolding check_counts
few_needs l h =
    let a = and_parts _ (versions_fit l) (test_holds (counts_fit l) h) in
    let b = and_parts (nat_le (length l.verdefs) most_versions) (nat_le (need_count l) most_versions && nat_le (versions_needed l) most_versions) a.1 in
    let c = and_parts (nat_le (need_count l) most_versions) (nat_le (versions_needed l) most_versions) b.1 in
    let d = leb-true _ _ c.0 in
    omega (arith, d)

-- ---- where no library has versions

none_counted : (fs : List File) → length (filter has_needs fs) ≡ 0 → total file_versions fs ≡ 0
none_counted [] h = refl
none_counted (f ∷ fs) h = by (needs_of f) refl h (λ k. none_counted fs k)
  where
    by : (o : Option VersionNeeds) → needs_of f ≡ o → length (filter has_needs (f ∷ fs)) ≡ 0 → (length (filter has_needs fs) ≡ 0 → total file_versions fs ≡ 0) → total file_versions (f ∷ fs) ≡ 0
    by None e k rest = let a = rest (rw e at k) in rw e (omega (arith, a))
    by (Some n) e k rest = cc (rw e at k)

-- none is needed
pub none_needed : (l : Layout) (n : ℕ) → n ≡ need_number l → n ≡ 0 → (nat_le (need_count l) most_versions && nat_le (versions_needed l) most_versions) ≡ true
unfolding need_number
none_needed l n is none =
    let count : need_count l ≡ 0 = omega (arith, is, none) in
    let versions : versions_needed l ≡ 0 = none_counted (files_of l.groups) count in
    rw (count, versions) refl

none_passed : (fs : List File) → length (filter has_needs fs) ≡ 0 → through mark_step 0 fs ≡ Some 0
none_passed [] h = refl
none_passed (f ∷ fs) h = by (needs_of f) refl h (λ k. none_passed fs k)
  where
    by : (o : Option VersionNeeds) → needs_of f ≡ o → length (filter has_needs (f ∷ fs)) ≡ 0 → (length (filter has_needs fs) ≡ 0 → through mark_step 0 fs ≡ Some 0) → through mark_step 0 (f ∷ fs) ≡ Some 0
    by None e k rest = rw e (rest (rw e at k))
    by (Some n) e k rest = cc (rw e at k)

none_marked : (i : ℕ) (gs : List Group) → length (filter has_needs (files_of gs)) ≡ 0 → mark_astray 0 i gs ≡ None
none_marked i [] h = refl
none_marked i (g ∷ gs) h =
    let cut = length_needed g.files (files_of gs) in
    let here : length (filter has_needs g.files) ≡ 0 = omega (arith, cut, h) in
    let behind : length (filter has_needs (files_of gs)) ≡ 0 = omega (arith, cut, h) in
    let passed = none_passed g.files here in
    rw (passed, here) (none_marked (i + 1) gs behind)

-- and none is marked
pub nothing_marked : (l : Layout) (n : ℕ) → n ≡ need_count l → n ≡ 0 → mark_astray (need_count l) 0 l.groups ≡ None
nothing_marked l n is none = let count : need_count l ≡ 0 = sym is ∙ none in rw count (none_marked 0 l.groups count)
