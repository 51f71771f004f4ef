-- Ranges of symbols, and the step over a symbol without a slot.
use Rattle.std.proofs.Common.{◌≡◌, ℕ, ◌+◌, ◌-◌, ◌*◌, inl, inr, Bool, true, List, [], ◌∷◌, take, drop, refl, sym, ap, ◌∙◌, arith}
use Rattle.std.specs.Prelude.{if◌then◌else◌, ◌&&◌, not, is_some, Option, Some, None, option_map, Ok, Err, slice_range}
use Rattle.std.proofs.lemmas.Bool.{cases_Bool}
use Rattle.wild_plan_rules.specs.declared.slot_places.SlotCursor.{SlotCursor}
use Rattle.wild_types.specs.declared.layout.Layout.{Layout}
use Rattle.wild_types.specs.declared.symbol.Symbol.{Symbol}
use Rattle.wild_types.specs.Lists.{first_failing}
use Rattle.wild_plan_rules.specs.SlotPlaces.{is_free_place, symbol_step, step_without_slot}
use Rattle.wild_types.specs.SymbolSlots.{lacks_slots, got_of, plt_of}
use Rattle.wild_needs.proofs.SlotShareLemmas.{no_slots}

-- nothing is written for it, so that all places stay
pub step_without : (l : Layout) (n : SlotCursor) (s : Symbol) → lacks_slots s ≡ true → symbol_step l n s ≡ step_without_slot n s
step_without l n s h = let e = no_slots l s h in rw e (by_test (got_of s) h)
  where
    add_zero : (k : ℕ) → k + 8 * 0 ≡ k
    add_zero k = omega arith

    by_test : (got : Option ℕ) → not (is_some got) ≡ true → (if is_free_place n.got got && is_free_place n.stub (plt_of s) then Ok (record { got = n.got + 8 * 0; block = n.block + 8 * 0; stub = n.stub; symbol = n.symbol + 1 }) else Err n.symbol) ≡ step_without_slot n s
    by_test None h = rw (add_zero n.got, add_zero n.block) refl
    by_test (Some at) h = cc

-- ---- ranges

-- so many as there are between two numbers
range_between : {X : Type 0} (xs : List X) (from to : ℕ) → slice_range xs from (from + (to - from)) ≡ slice_range xs from to
range_between xs from to = ap (λ n. take n (drop from xs)) (omega arith)

-- the place of the first that fails, counted from another number on
failing_behind : {X : Type 0} (test : X → Bool) (i k : ℕ) (xs : List X) → first_failing test (i + k) xs ≡ option_map (λ j. i + j) (first_failing test k xs)
failing_behind test i k [] = refl
failing_behind test i k (x ∷ xs) =
    let e : i + k + 1 ≡ i + (k + 1) = omega arith in
    let again = failing_behind test i (k + 1) xs in
    elim (cases_Bool (test x)) [
      | inl t ↦ rw (t, e) again
      | inr f ↦ rw f refl
    ]

pub slot_found : (ss : List Symbol) (from to count : ℕ) (found : Option ℕ) → found ≡ first_failing lacks_slots 0 (slice_range ss from (from + count)) → count ≡ to - from → option_map (λ j. from + j) found ≡ first_failing lacks_slots from (slice_range ss from to)
slot_found ss from to count found is so =
    let e : from + 0 ≡ from = omega arith in
    let far = failing_behind lacks_slots from 0 (slice_range ss from to) in
    let near = ap (λ n. first_failing lacks_slots 0 (slice_range ss from (from + n))) so ∙ ap (first_failing lacks_slots 0) (range_between ss from to) in
    ap (option_map (λ j. from + j)) (is ∙ near) ∙ sym (rw e at far)
