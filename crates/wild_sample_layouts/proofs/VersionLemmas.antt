-- The plan of n groups needs no versions.
use Rattle.std.proofs.Common.{◌≡◌, ℕ, zero, suc, ◌+◌, ◌==◌, inl, inr, [], length, refl, ap, ◌∙◌}
use Rattle.std.specs.Prelude.{Some, None, Ok}
use Rattle.std.specs.List.{filter}
use Rattle.std.proofs.lemmas.Bool.{cases_Bool}
use Rattle.std.proofs.lemmas.List.Elements.{filter-append}
use Rattle.wild_types.specs.declared.file.File.{File}
use Rattle.wild_types.specs.Lists.{total}
use Rattle.wild_types.specs.Lookups.{files_of}
use Rattle.wild_needs.specs.Versions.{needs_of, has_needs, need_count, length_of, versions_needed}
use Rattle.wild_plan_rules.specs.VersionTables.{mark_step, mark_astray}
use Rattle.wild_plan_rules.specs.ClauseTests.{check_versions}
use Rattle.wild_types.proofs.ListLemmas.{total-append}
use Rattle.wild_sample_layouts.specs.PlanOfGroups.{made_files, made_group, plan_of_groups}
use Rattle.wild_sample_layouts.proofs.ListLemmas.{made_from}
use Rattle.wild_sample_layouts.proofs.FileLemmas.{total_files, through_files}

-- ---- how many there are

none_of_files : (n i : ℕ) → filter has_needs (made_files n i) ≡ []
none_of_files n i =
    elim (cases_Bool (i == 0)) [
      | inl a ↦ elim (cases_Bool (i + 1 == n)) [ inl b ↦ rw (a, b) refl | inr b ↦ rw (a, b) refl ]
      | inr a ↦ elim (cases_Bool (i + 1 == n)) [ inl b ↦ rw (a, b) refl | inr b ↦ rw (a, b) refl ]
    ]

none_of_groups : (n a m : ℕ) → filter has_needs (files_of (made_from (made_group n) a m)) ≡ []
none_of_groups n a zero = refl
none_of_groups n a (suc m) =
    let one = none_of_files n a in
    let rest = none_of_groups n (a + 1) m in
    filter-append has_needs (made_files n a) (files_of (made_from (made_group n) (a + 1) m)) ∙ rw (one, rest) refl

-- no library has versions that are needed of it
pub no_needs : (n : ℕ) → need_count (plan_of_groups n) ≡ 0
unfolding plan_of_groups
no_needs n = ap length (none_of_groups n 0 n)

length_of_groups : (n a m : ℕ) → total (λ (f : File). length_of (needs_of f)) (files_of (made_from (made_group n) a m)) ≡ 0
length_of_groups n a zero = refl
length_of_groups n a (suc m) =
    let one = total_files (λ (f : File). length_of (needs_of f)) n a refl refl in
    let rest = length_of_groups n (a + 1) m in
    total-append (λ (f : File). length_of (needs_of f)) (made_files n a) (files_of (made_from (made_group n) (a + 1) m)) ∙ rw (one, rest) refl

pub no_versions : (n : ℕ) → versions_needed (plan_of_groups n) ≡ 0
unfolding plan_of_groups
no_versions n = length_of_groups n 0 n

-- ---- clause 18

none_marked : (n i a m : ℕ) → mark_astray 0 i (made_from (made_group n) a m) ≡ None
none_marked n i a zero = refl
none_marked n i a (suc m) = rw (through_files mark_step 0 n a (λ t. refl) (λ t. refl) (Some 0) refl, none_of_files n a) (none_marked n (i + 1) (a + 1) m)

pub versions_hold : (n : ℕ) → check_versions (plan_of_groups n) ≡ Ok tt
unfolding check_versions plan_of_groups
versions_hold n = rw (no_needs n, none_marked n 0 0 n) refl
