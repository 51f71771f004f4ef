-- Words of AArch64 that are no instruction of a reference.
use Rattle.wild_meaning.proofs.Common.{◌≡◌, ℕ, Bool, true, false, [], ◌∷◌, refl, ◌==◌, ◌&&◌, ◌||◌, map, list_all, read}
use Rattle.std.proofs.Common.{eqb-true}
use Rattle.std.proofs.lemmas.Bool.{and_parts}
use Rattle.wild_aarch64.specs.Slice.{bits, has_fixed_bits}
use Rattle.wild_aarch64.specs.Forms.{add, add_shifted, movn, adrp}
use Rattle.wild_aarch64.specs.FilledForms.{forms_filled}
use Rattle.wild_aarch64.specs.Machine.{run}
use Rattle.wild_aarch64.specs.Effect.{shapes}
use Rattle.wild_aarch64.specs.Template.{codes_of, begins, register_in}
use Rattle.wild_aarch64.specs.declared.template.Template.TheVariants as kinds
use Rattle.wild_aarch64.proofs.FieldLemmas.{movn_field, form_is_read}
use Rattle.wild_meaning.specs.WordsAArch64.{is_of, has_known_meaning}
use Rattle.wild_meaning.specs.Worked.RefusalsAArch64.{NegatedMovesAreUnknown, ShiftedAddsAreUnknown}

and_false : (a b : Bool) → b ≡ false → (a && b) ≡ false
and_false true b h = h
and_false false b h = refl

pub negated_unknown : NegatedMovesAreUnknown
negated_unknown = λ n w s.
    let there = form_is_read movn movn_field w s in
    let none : has_known_meaning (run (shapes (w ∷ [])) 0 []) ≡ false = rw there refl in
    and_false (list_all (is_of (forms_filled n)) (w ∷ [])) (has_known_meaning (run (shapes (w ∷ [])) 0 [])) none

-- the two have bits that differ
not_plain : (u : ℕ) → has_fixed_bits add_shifted.fixed u ≡ true → has_fixed_bits add.fixed u ≡ false
not_plain u s =
    let p = and_parts (bits 26 3 u == 4) (bits 24 5 u == 17 && (bits 22 10 u == 0x245 && true)) s in
    let q = and_parts (bits 24 5 u == 17) (bits 22 10 u == 0x245 && true) p.1 in
    let r = and_parts (bits 22 10 u == 0x245) true q.1 in
    let is : bits 22 10 u ≡ 0x245 = eqb-true (bits 22 10 u) 0x245 r.0 in
    let other : (bits 22 10 u == 0x244) ≡ false = rw is refl in
    rw (p.0, q.0, other) refl

pub shifted_unknown : ShiftedAddsAreUnknown
shifted_unknown w u s = by (has_fixed_bits adrp.fixed w) (not_plain u s)
  where
    by : (a : Bool) → has_fixed_bits add.fixed u ≡ false → (((a || false) && ((has_fixed_bits add.fixed u || false) && true)) && (begins (codes_of kinds.AddressPair (register_in (w ∷ u ∷ []))) (map read (w ∷ u ∷ [])) && has_known_meaning (run (shapes (w ∷ u ∷ [])) 0 []))) ≡ false
    by true plain = rw plain refl
    by false plain = refl
