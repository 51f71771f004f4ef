-- What it says that the clause on versions holds.
use Rattle.wild_geometry.proofs.Common.{◌≡◌, ℕ, zero, suc, ◌+◌, ◌<◌, inl, inr, true, List, [], ◌∷◌, Option, Some, None, Ok, slice_get, refl, ap, arith, nat_lt, list_any, cases_Bool, and_parts, ltb-true, same_Some, Part, Role, Layout, unless, has_role, part_with, fails, first_error, None-from_fails}
use Rattle.wild_types.specs.declared.part.Role.TheVariants as role
use Rattle.wild_types.specs.declared.layout.VersionDefinition.{VersionDefinition}
use Rattle.wild_needs.specs.Versions.{need_count}
use Rattle.wild_plan_rules.specs.VersionTables.{parent_fits, parent_astray, some_definition, definition_astray, mark_astray, versions_agree}
use Rattle.wild_plan_rules.specs.ClauseTests.{check_versions}
use Rattle.wild_layout.specs.VersionOrder.{ParentsStand, HasVersionsInOrder}
use Rattle.wild_geometry.proofs.ClauseLemmas.{Both-from_first_error}

-- ---- versions that the output defines

fits_before : (i : ℕ) (o : Option ℕ) (p : ℕ) → parent_fits i o ≡ true → o ≡ Some p → p < i
fits_before i None p t h = cc
fits_before i (Some q) p t h =
    let e = same_Some q p h in
    let low = ltb-true q i (and_parts (nat_lt 0 q) (nat_lt q i) t).1 in
    omega arith

parents_before : (i : ℕ) (ds : List VersionDefinition) → parent_astray i ds ≡ None → (k : ℕ) (d : VersionDefinition) (p : ℕ) → slice_get ds k ≡ Some d → d.parent ≡ Some p → p < i + k
parents_before i [] h k d p found has = cc
parents_before i (x ∷ ds) h zero d p found has =
    elim (cases_Bool (parent_fits i x.parent)) [
      | inl t ↦
          (let e = ap (λ (y : VersionDefinition). y.parent) (same_Some x d found) in
          let parent : x.parent ≡ Some p = cc in
          let low = fits_before i x.parent p t parent in
          omega arith)
      | inr n ↦ cc (rw n at h)
    ]
parents_before i (x ∷ ds) h (suc k) d p found has =
    elim (cases_Bool (parent_fits i x.parent)) [
      | inl t ↦ (let low = parents_before (i + 1) ds (rw t at h) k d p found has in omega arith)
      | inr n ↦ cc (rw n at h)
    ]

by_parents : (ds : List VersionDefinition) → some_definition ds ≡ None → ParentsStand ds
by_parents [] h = cc
by_parents (d ∷ ds) h = record {
  some = omega arith;
  parents = λ k e p found has. (let low = parents_before 0 (d ∷ ds) h k e p found has in omega arith);
}

-- a part of the role is found
listed : (r : Role) (ps : List Part) (p : Part) → part_with r ps ≡ Some p → list_any (has_role r) ps ≡ true
listed r [] p h = cc
listed r (q ∷ ps) p h =
    elim (cases_Bool (has_role r q)) [
      | inl t ↦ rw t refl
      | inr n ↦ rw n (listed r ps p (rw n at h))
    ]

-- where there is a part for them
definitions_stand : (l : Layout) → definition_astray l ≡ None → (p : Part) → part_with role.GnuVersionD l.parts ≡ Some p → ParentsStand l.verdefs
definitions_stand l h p found =
    let there = listed role.GnuVersionD l.parts p found in
    by_parents l.verdefs (rw there at h)

-- ---- the clause

pub HasVersionsInOrder-from_check : (l : Layout) → check_versions l ≡ Ok tt → HasVersionsInOrder l
unfolding check_versions
HasVersionsInOrder-from_check l h =
    let marks = fails 18 (mark_astray (need_count l) 0 l.groups) in
    let rest = fails 18 (unless (versions_agree l)) in
    let a = Both-from_first_error (fails 18 (definition_astray l)) (first_error marks rest) h in
    let b = Both-from_first_error marks rest a.rest in
    record { definitions = definitions_stand l (None-from_fails 18 (definition_astray l) a.first); marks = None-from_fails 18 (mark_astray (need_count l) 0 l.groups) b.first }
