-- No symbol of the plan of n groups has a slot or a stub.
use Rattle.std.proofs.Common.{◌≡◌, ℕ, zero, suc, ◌+◌, ◌-◌, ◌<◌, ◌==◌, inl, inr, Bool, true, false, List, [], ◌∷◌, ◌++◌, if◌then◌else◌, take, drop, refl, ◌∙◌, arith}
use Rattle.std.specs.Prelude.{None, Ok, not, slice_range, length}
use Rattle.std.specs.List.{flat_map, list_all}
use Rattle.std.proofs.lemmas.Bool.{cases_Bool, and_parts, le-ltb, and_from}
use Rattle.std.proofs.lemmas.List.Concat.{flat_map-append}
use Rattle.wild_words.proofs.Basics.{flat_map-none}
use Rattle.wild_relr.specs.RunWords.{block}
use Rattle.wild_types.specs.declared.part.Role.{Role}
use Rattle.wild_types.specs.declared.part.Role.TheVariants as role
use Rattle.wild_types.specs.declared.file.File.{File}
use Rattle.wild_types.specs.declared.file.FileRole.TheVariants as file_role
use Rattle.wild_types.specs.declared.file.Group.{Group}
use Rattle.wild_types.specs.declared.layout.Layout.{Layout}
use Rattle.wild_types.specs.declared.symbol.Symbol.{Symbol}
use Rattle.wild_types.specs.FileSymbols.{range_of, own_symbols}
use Rattle.wild_needs.specs.DynamicSymbols.{is_undefined_entry, places_where, undefined_in, dynamic_symbols}
use Rattle.wild_types.specs.Flags.{has_flag}
use Rattle.wild_types.specs.Lists.{first_failing}
use Rattle.wild_types.specs.HeaderOnly.{is_header_only_role}
use Rattle.wild_types.specs.Lookups.{files_of}
use Rattle.wild_types.specs.FileRoles.{writes_slots}
use Rattle.wild_needs.specs.SlotShares.{slot_share, relr_got_places, group_relr_got, relr_got_share}
use Rattle.wild_plan_rules.specs.SlotPlaces.{first_free, walk, symbol_step, slot_before, range_step, group_step, slots_astray, slot_is_even}
use Rattle.wild_types.specs.SymbolSlots.{lacks_slots}
use Rattle.wild_plan_rules.specs.ClauseTests.{check_slots}
use Rattle.wild_slot.specs.SymbolWords.{slots_of}
use Rattle.wild_needs.proofs.SlotShareLemmas.{no_slots, slots_plain}
use Rattle.wild_needs.proofs.SlotBlockLemmas.{places_without}
use Rattle.wild_plan_rules.proofs.SlotPlaceLemmas.{step_without}
use Rattle.wild_layout.specs.Faults.{flat_map_from, at_file, slot_refusal, slot_role, symbol_errors, slot_errors}
use Rattle.wild_sample_layouts.specs.PlanOfGroups.{made_object, made_files, made_symbol, made_group, plan_of_groups}
use Rattle.wild_sample_layouts.proofs.ListLemmas.{made_from, none_fails, list_all_made}

-- ---- parts of lists whose items all pass

all_taken : {X : Type 0} (t : X → Bool) (k : ℕ) (xs : List X) → list_all t xs ≡ true → list_all t (take k xs) ≡ true
all_taken t zero xs h = refl
all_taken t (suc k) [] h = refl
all_taken t (suc k) (x ∷ xs) h = let p = and_parts (t x) (list_all t xs) h in and_from (t x) (list_all t (take k xs)) p.0 (all_taken t k xs p.1)

all_dropped : {X : Type 0} (t : X → Bool) (k : ℕ) (xs : List X) → list_all t xs ≡ true → list_all t (drop k xs) ≡ true
all_dropped t zero xs h = h
all_dropped t (suc k) [] h = refl
all_dropped t (suc k) (x ∷ xs) h = let p = and_parts (t x) (list_all t xs) h in all_dropped t k xs p.1

all_ranged : {X : Type 0} (t : X → Bool) (xs : List X) (a b : ℕ) → list_all t xs ≡ true → list_all t (slice_range xs a b) ≡ true
all_ranged t xs a b h = all_taken t (b - a) (drop a xs) (all_dropped t a xs h)

none_failing : {X : Type 0} (t : X → Bool) (i : ℕ) (xs : List X) → list_all t xs ≡ true → first_failing t i xs ≡ None
none_failing t i [] h = refl
none_failing t i (x ∷ xs) h = let p = and_parts (t x) (list_all t xs) h in rw p.0 (none_failing t (i + 1) xs p.1)

-- ---- shares and faults

without_symbols : (n : ℕ) → list_all lacks_slots (made_from made_symbol 0 n) ≡ true
without_symbols n = list_all_made lacks_slots made_symbol 0 n (λ k low high. refl)

without_made : (n : ℕ) (f : File) → list_all lacks_slots (own_symbols (plan_of_groups n) f) ≡ true
unfolding plan_of_groups
without_made n f =
    elim (cases_Bool (writes_slots f.role)) [
      | inl t ↦ rw t (all_ranged lacks_slots (made_from made_symbol 0 n) f.first_symbol (f.first_symbol + f.symbol_count) (without_symbols n))
      | inr e ↦ rw e refl
    ]

pub slots_made : (n : ℕ) (r : Role) (f : File) → slot_share (plan_of_groups n) r f ≡ 0
slots_made n r f = slots_plain (plan_of_groups n) r f (without_made n f)

no_block : (n : ℕ) (g : Group) → group_relr_got (plan_of_groups n) g ≡ []
unfolding group_relr_got
no_block n g = flat_map-none (λ f. flat_map (relr_got_places (plan_of_groups n)) (own_symbols (plan_of_groups n) f)) g.files (λ f. places_without (plan_of_groups n) (own_symbols (plan_of_groups n) f) (without_made n f))

pub block_made : (n : ℕ) (r : Role) (g : Group) → relr_got_share (plan_of_groups n) r g ≡ 0
unfolding block
block_made n role.RelrDyn g = rw (no_block n g) refl
block_made n other g = refl

-- what is refused of a symbol is nothing, whether its slots are written or not
none_refused : {X : Type 0} (b : Bool) (xs ys : List X) → xs ≡ [] → ys ≡ [] → (if b then [] else xs) ++ ys ≡ []
none_refused true xs ys x y = y
none_refused false xs ys x y = rw (x, y) refl

errors_without : (l : Layout) (g k i : ℕ) (ss : List Symbol) → list_all lacks_slots ss ≡ true → flat_map_from (symbol_errors l g k) i ss ≡ []
errors_without l g k i [] h = refl
errors_without l g k i (s ∷ ss) h =
    let p = and_parts (lacks_slots s) (list_all lacks_slots ss) h in
    let none = no_slots l s p.0 in
    none_refused (is_header_only_role l (slot_role l s)) (slot_refusal (at_file g k) i (slots_of l s).fault) (flat_map_from (symbol_errors l g k) (i + 1) ss) (rw none refl) (errors_without l g k (i + 1) ss p.1)

pub slots_clean : (n g k : ℕ) (f : File) → slot_errors (plan_of_groups n) g k f ≡ []
unfolding slot_errors
slots_clean n g k f = errors_without (plan_of_groups n) g k f.first_symbol (own_symbols (plan_of_groups n) f) (without_made n f)

-- ---- the dynamic symbol table

none_placed : {X : Type 0} (t : X → Bool) (i : ℕ) (xs : List X) → list_all (λ x. not (t x)) xs ≡ true → places_where t i xs ≡ []
none_placed t i [] h = refl
none_placed t i (x ∷ xs) h =
    let p = and_parts (not (t x)) (list_all (λ y. not (t y)) xs) h in
    let no : t x ≡ false = not-true (t x) p.0 in
    rw no (none_placed t (i + 1) xs p.1)
  where
    not-true : (b : Bool) → not b ≡ true → b ≡ false
    not-true true e = cc
    not-true false e = refl

-- no object's symbol is another module's
all_own : (n : ℕ) → list_all (λ (s : Symbol). not (is_undefined_entry file_role.Object s)) (made_from made_symbol 0 n) ≡ true
unfolding has_flag
all_own n = list_all_made (λ (s : Symbol). not (is_undefined_entry file_role.Object s)) made_symbol 0 n (λ k low high. refl)

none_undefined : (n i : ℕ) → undefined_in (made_from made_symbol 0 n) (made_object n i) ≡ []
none_undefined n i =
    let t = λ (s : Symbol). not (is_undefined_entry file_role.Object s) in
    none_placed (is_undefined_entry file_role.Object) i (range_of (made_from made_symbol 0 n) (made_object n i)) (all_taken t 1 (drop i (made_from made_symbol 0 n)) (all_dropped t i (made_from made_symbol 0 n) (all_own n)))

undefined_files : (n i : ℕ) → flat_map (undefined_in (made_from made_symbol 0 n)) (made_files n i) ≡ []
undefined_files n i =
    let own = none_undefined n i in
    elim (cases_Bool (i == 0)) [
      | inl a ↦ elim (cases_Bool (i + 1 == n)) [ inl b ↦ rw (a, b, own) refl | inr b ↦ rw (a, b, own) refl ]
      | inr a ↦ elim (cases_Bool (i + 1 == n)) [ inl b ↦ rw (a, b, own) refl | inr b ↦ rw (a, b, own) refl ]
    ]

undefined_groups : (n a m : ℕ) → flat_map (undefined_in (made_from made_symbol 0 n)) (files_of (made_from (made_group n) a m)) ≡ []
undefined_groups n a zero = refl
undefined_groups n a (suc m) =
    let one = undefined_files n a in
    let rest = undefined_groups n (a + 1) m in
    flat_map-append (undefined_in (made_from made_symbol 0 n)) (made_files n a) (files_of (made_from (made_group n) (a + 1) m)) ∙ rw (one, rest) refl

-- no symbol is in the dynamic symbol table
pub no_dynamic_symbols : (n : ℕ) → dynamic_symbols (plan_of_groups n) ≡ []
unfolding plan_of_groups
no_dynamic_symbols n = rw (undefined_groups n 0 n) refl

-- ---- clause 11

symbol_passed : (n i : ℕ) → symbol_step (plan_of_groups n) (record (first_free (plan_of_groups n)) { symbol = i }) (made_symbol i) ≡ Ok (record (first_free (plan_of_groups n)) { symbol = i + 1 })
symbol_passed n i = step_without (plan_of_groups n) (record (first_free (plan_of_groups n)) { symbol = i }) (made_symbol i) refl

symbols_passed : (n i : ℕ) → walk (symbol_step (plan_of_groups n)) (record (first_free (plan_of_groups n)) { symbol = i }) (made_symbol i ∷ []) ≡ Ok (record (first_free (plan_of_groups n)) { symbol = i + 1 })
unfolding walk
symbols_passed n i = rw (symbol_passed n i) refl

taken_one : {X : Type 0} (f : ℕ → X) (a m k j : ℕ) → k < m → j ≡ a + k → take 1 (drop k (made_from f a m)) ≡ f j ∷ []
taken_one f a zero k j h e = absurd (omega arith)
taken_one f a (suc m) zero j h e = let z : j ≡ a = omega arith in rw z refl
taken_one f a (suc m) (suc k) j h e = taken_one f (a + 1) m k j (omega arith) (omega arith)

own_made : (n i : ℕ) → i < n → own_symbols (plan_of_groups n) (made_object n i) ≡ made_symbol i ∷ []
unfolding plan_of_groups
own_made n i h = let e : i + 1 - i ≡ 1 = omega arith in rw e (taken_one made_symbol 0 n i i h (omega arith))

none_before : (n i : ℕ) → slot_before (plan_of_groups n) (record (first_free (plan_of_groups n)) { symbol = i }) i ≡ None
none_before n i = let e : i - i ≡ 0 = omega arith in rw e refl

object_passed : (n i : ℕ) → i < n → range_step (plan_of_groups n) (record (first_free (plan_of_groups n)) { symbol = i }) (made_object n i) ≡ Ok (record (first_free (plan_of_groups n)) { symbol = i + 1 })
object_passed n i h = let e = le-ltb i i (omega arith) in rw (e, none_before n i, own_made n i h) (symbols_passed n i)

group_passed : (n i : ℕ) → i < n → group_step (plan_of_groups n) (record (first_free (plan_of_groups n)) { symbol = i }) (made_group n i) ≡ Ok (record (first_free (plan_of_groups n)) { symbol = i + 1 })
unfolding walk
group_passed n i h =
    let object = object_passed n i h in
    elim (cases_Bool (i == 0)) [
      | inl a ↦ elim (cases_Bool (i + 1 == n)) [ inl b ↦ rw (a, b, object) refl | inr b ↦ rw (a, b, object) refl ]
      | inr a ↦ elim (cases_Bool (i + 1 == n)) [ inl b ↦ rw (a, b, object) refl | inr b ↦ rw (a, b, object) refl ]
    ]

groups_passed : (n a m : ℕ) → a + m ≡ n → walk (group_step (plan_of_groups n)) (record (first_free (plan_of_groups n)) { symbol = a }) (made_from (made_group n) a m) ≡ Ok (record (first_free (plan_of_groups n)) { symbol = n })
unfolding walk
groups_passed n a zero e = let z : a ≡ n = omega arith in rw z refl
groups_passed n a (suc m) e = rw (group_passed n a (omega arith)) (groups_passed n (a + 1) m (omega arith))

none_astray : (n : ℕ) → slots_astray (plan_of_groups n) ≡ None
unfolding plan_of_groups
none_astray n =
    let symbols = made_from made_symbol 0 n in
    rw (groups_passed n 0 n (omega arith)) (none_failing lacks_slots n (slice_range symbols n (length symbols)) (all_ranged lacks_slots symbols n (length symbols) (without_symbols n)))

pub slots_hold : (n : ℕ) → check_slots (plan_of_groups n) ≡ Ok tt
unfolding check_slots plan_of_groups
slots_hold n = rw (none_astray n, none_fails slot_is_even made_symbol 0 0 n (λ k low high. refl)) refl
