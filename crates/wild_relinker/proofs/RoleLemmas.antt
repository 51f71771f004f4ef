-- The roles that need a part for dynamic relocations.
use Rattle.std.proofs.Common.{◌≡◌, ◌-◌, ◌^◌, ◌*◌, ℕ, min, ◌==◌, ◌||◌, not, Bool, true, false, true≢false, length, Option, Some, None, if◌then◌else◌, inl, inr, refl, sym, ap, ◌∙◌, arith}
use Rattle.std.proofs.lemmas.Bool.{cases_Bool, eq-eqb, ne_eqb, eqb-true}
use Rattle.std.specs.List.{list_any}
use Rattle.wild_types.specs.declared.input.InputSection.{InputSection}
use Rattle.wild_types.specs.declared.layout.Layout.{Layout}
use Rattle.wild_types.specs.declared.part.Role.TheVariants as role
use Rattle.wild_types.specs.Lists.{first_failing}
use Rattle.wild_types.specs.Parts.{has_role}
use Rattle.wild_plan_rules.specs.Places.{roles}
use Rattle.wild_needs.specs.Entries.{rela_places, words_of, dynamic_relocations}
use Rattle.wild_outlines.specs.RefusalLaws.{needs_no_part}

or_true : (b : Bool) → (b || true) ≡ true
or_true true = refl
or_true false = refl

-- the first of the three roles that has no part, although one is needed; other roles need none
abbrev first_without_part : Bool → Bool → Bool → Option ℕ
first_without_part relative general relr = if not relative then Some 9 else (if not general then Some 10 else (if not relr then Some 11 else None))

roles_without_part : (l : Layout) (s : InputSection)
    → first_failing (needs_no_part l s) 0 roles ≡ first_without_part (needs_no_part l s role.RelaDynRelative) (needs_no_part l s role.RelaDynGeneral) (needs_no_part l s role.RelrDyn)
roles_without_part l s = simp (or_true) refl

pub without_relative : (l : Layout) (s : InputSection) → not (needs_no_part l s role.RelaDynRelative) ≡ true → first_failing (needs_no_part l s) 0 roles ≡ Some 9
without_relative l s a = roles_without_part l s ∙ rw a refl

pub without_general : (l : Layout) (s : InputSection) → not (needs_no_part l s role.RelaDynRelative) ≡ false → not (needs_no_part l s role.RelaDynGeneral) ≡ true → first_failing (needs_no_part l s) 0 roles ≡ Some 10
without_general l s a b = roles_without_part l s ∙ rw (a, b) refl

pub without_relr : (l : Layout) (s : InputSection) → not (needs_no_part l s role.RelaDynRelative) ≡ false → not (needs_no_part l s role.RelaDynGeneral) ≡ false → not (needs_no_part l s role.RelrDyn) ≡ true → first_failing (needs_no_part l s) 0 roles ≡ Some 11
without_relr l s a b d = roles_without_part l s ∙ rw (a, b, d) refl

pub without_none : (l : Layout) (s : InputSection) → not (needs_no_part l s role.RelaDynRelative) ≡ false → not (needs_no_part l s role.RelaDynGeneral) ≡ false → not (needs_no_part l s role.RelrDyn) ≡ false → first_failing (needs_no_part l s) 0 roles ≡ None
without_none l s a b d = roles_without_part l s ∙ rw (a, b, d) refl

-- ---- the number of entries that need a part

-- no bytes are needed exactly if the number of items is 0, also if the number is cut at its type's end
none_needed : (count bytes n : ℕ) → count ≡ min (2 ^ 64 - 1) n → (n ≡ 0 → bytes ≡ 0) → (bytes ≡ 0 → n ≡ 0) → (count == 0) ≡ (bytes == 0)
none_needed count bytes n e up down =
    elim (cases_Bool (count == 0)) [
      | inl t ↦ let c = eqb-true count 0 t in let z : n ≡ 0 = omega (arith, e, c) in t ∙ sym (eq-eqb bytes 0 (up z))
      | inr t ↦ t ∙ sym (ne_eqb bytes 0 (λ b. let z = down b in let c : count ≡ 0 = omega (arith, e, z) in true≢false (sym (eq-eqb count 0 c) ∙ t)))
    ]

-- a role lacks a part for these entries or words
pub lacks_relative : (l : Layout) (s : InputSection) (count : ℕ) → count ≡ min (2 ^ 64 - 1) (length (rela_places l s)) → not (list_any (has_role role.RelaDynRelative) l.parts || count == 0) ≡ not (needs_no_part l s role.RelaDynRelative)
lacks_relative l s count e =
    let n = length (rela_places l s) in
    ap (λ (z : Bool). not (list_any (has_role role.RelaDynRelative) l.parts || z)) (none_needed count (24 * n) n e (λ z. omega (arith, z)) (λ z. omega (arith, z)))

pub lacks_general : (l : Layout) (s : InputSection) (count : ℕ) → count ≡ min (2 ^ 64 - 1) (length (dynamic_relocations l s)) → not (list_any (has_role role.RelaDynGeneral) l.parts || count == 0) ≡ not (needs_no_part l s role.RelaDynGeneral)
lacks_general l s count e =
    let n = length (dynamic_relocations l s) in
    ap (λ (z : Bool). not (list_any (has_role role.RelaDynGeneral) l.parts || z)) (none_needed count (24 * n) n e (λ z. omega (arith, z)) (λ z. omega (arith, z)))

pub lacks_relr : (l : Layout) (s : InputSection) (count : ℕ) → count ≡ min (2 ^ 64 - 1) (length (words_of l s)) → not (list_any (has_role role.RelrDyn) l.parts || count == 0) ≡ not (needs_no_part l s role.RelrDyn)
lacks_relr l s count e =
    let n = length (words_of l s) in
    ap (λ (z : Bool). not (list_any (has_role role.RelrDyn) l.parts || z)) (none_needed count (8 * n) n e (λ z. omega (arith, z)) (λ z. omega (arith, z)))
