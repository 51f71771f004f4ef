-- What it says that the clause on the dynamic symbol table holds, and the one on names.
use Rattle.wild_geometry.proofs.Common.{◌≡◌, ℕ, zero, suc, ◌+◌, inl, inr, ◌==◌, not, Bool, true, false, if◌then◌else◌, List, [], ◌∷◌, All, Option, Some, None, Ok, slice_get, refl, ap, ◌∙◌, arith, subst, list_all, cases_Bool, and_parts, eqb-true, All-nil, All-cons, All-weaker, Symbol, DynamicSymbol, Layout, first_listed, first_failing, unless, fails, All-from_none_fails, None-from_fails}
use Rattle.wild_types.specs.declared.symbol.Resolution.{Resolution}
use Rattle.wild_needs.specs.DynamicSymbols.{dynamic_symbols, is_named, has_position, dynsym_of, position_fits, misplaced, symbol_listed_fits, listed_fits, first_misplaced_listed}
use Rattle.wild_plan_rules.specs.ZeroFree.{name_fits, option_names_fit, section_name_fits, symbol_name_fits, group_names_fit, listed_name_fits}
use Rattle.wild_plan_rules.specs.ClauseTests.{check_dynsyms, check_names}
use Rattle.wild_hashes.specs.Reading.{HasNoZero}
use Rattle.wild_layout.specs.ExportedSymbols.{IsEntry, IsThere, AreExported}
use Rattle.wild_geometry.proofs.ClauseLemmas.{Both-from_first_error}

-- ---- an index is the position of one symbol

position_at : (table : List ℕ) (i j : ℕ) (ss : List Symbol) (s : Symbol) → misplaced table j ss ≡ None → slice_get ss i ≡ Some s → position_fits table (j + i) (dynsym_of s) ≡ true
position_at table i j [] s h there = cc
position_at table i j (x ∷ xs) s h there =
    elim (cases_Bool (position_fits table j (dynsym_of x))) [
      | inr f ↦ cc (rw f at h)
      | inl t ↦ at table i j x xs s there t (rw t at h) (λ k e rest. position_at table k (j + 1) xs s rest e)
    ]
  where
    at : (table : List ℕ) (i j : ℕ) (x : Symbol) (xs : List Symbol) (s : Symbol) → slice_get (x ∷ xs) i ≡ Some s → position_fits table j (dynsym_of x) ≡ true → misplaced table (j + 1) xs ≡ None
        → ((k : ℕ) → slice_get xs k ≡ Some s → misplaced table (j + 1) xs ≡ None → position_fits table (j + 1 + k) (dynsym_of s) ≡ true) → position_fits table (j + i) (dynsym_of s) ≡ true
    at table zero j x xs s e t rest again =
        let same : x ≡ s = cc in
        let z : j ≡ j + 0 = omega arith in
        subst (λ (y : Symbol). position_fits table (j + 0) (dynsym_of y) ≡ true) same (subst (λ (k : ℕ). position_fits table k (dynsym_of x) ≡ true) z t)
    at table (suc i) j x xs s e t rest again = (let z : j + 1 + i ≡ j + suc i = omega arith in subst (λ (m : ℕ). position_fits table m (dynsym_of s) ≡ true) z (again i e rest))

entry_of : (table : List ℕ) (c p : ℕ) → has_position table c p ≡ true → IsEntry table c p
entry_of table c zero h = cc
entry_of table c (suc k) h = by_item table c k (slice_get table k) refl h
  where
    by_item : (table : List ℕ) (c k : ℕ) (o : Option ℕ) → slice_get table k ≡ o → is_named c o ≡ true → IsEntry table c (suc k)
    by_item table c k None e h = cc
    by_item table c k (Some d) e h = (k, refl, e ∙ ap (λ (n : ℕ). Some n) (eqb-true d c h))

has_entry : (l : Layout) → misplaced (dynamic_symbols l) 0 l.symbols ≡ None → (c p : ℕ) (s : Symbol) (r : Resolution) → slice_get l.symbols c ≡ Some s → s.resolution ≡ Some r → r.dynamic_symbol_index ≡ Some p → IsEntry (dynamic_symbols l) c p
has_entry l h c p s r there decided told =
    let placed = position_at (dynamic_symbols l) c 0 l.symbols s h there in
    let carried : dynsym_of s ≡ Some p = rw (decided, told) refl in
    let z : 0 + c ≡ c = omega arith in
    entry_of (dynamic_symbols l) c p (subst (λ (n : ℕ). position_fits (dynamic_symbols l) n (Some p) ≡ true) z (subst (λ (o : Option ℕ). position_fits (dynamic_symbols l) (0 + c) o ≡ true) carried placed))

-- ---- what is listed is there

there_of : (l : Layout) (p i : ℕ) (o : Option Symbol) → symbol_listed_fits l p i o ≡ true → (s : Symbol) × (o ≡ Some s)
there_of l p i None h = cc
there_of l p i (Some s) h = (s, refl)

step : (b : Bool) (rest : Option ℕ) (i : ℕ) → (if b then rest else Some i) ≡ None → (b ≡ true) × (rest ≡ None)
step true rest i h = (refl, h)
step false rest i h = cc

are_there : (l : Layout) (p i : ℕ) (ds : List DynamicSymbol) → first_misplaced_listed l p i ds ≡ None → All (IsThere l) ds
are_there l p i [] h = All-nil (IsThere l)
are_there l p i (d ∷ ds) h =
    let a = step (listed_fits l p d) (first_misplaced_listed l (p + 1) (i + 1) ds) i h in
    All-cons (IsThere l) d ds (there_of l p d.symbol (slice_get l.symbols d.symbol) a.0) (are_there l (p + 1) (i + 1) ds a.1)

-- ---- and has a name

has_no_zero : (name : List ℕ) → name_fits name ≡ true → HasNoZero name
has_no_zero [] h k lt e = absurd (omega (arith, lt))
has_no_zero (b ∷ bs) h zero lt e = not_zero b e (and_parts (not (b == 0)) (list_all (λ c. not (c == 0)) bs) h).0
  where
    not_zero : (b : ℕ) → b ≡ 0 → not (b == 0) ≡ true → ⊥
    not_zero zero e h = cc
    not_zero (suc b) e h = cc
has_no_zero (b ∷ bs) h (suc k) lt e = has_no_zero bs (and_parts (not (b == 0)) (list_all (λ c. not (c == 0)) bs) h).1 k (omega (arith, lt)) e

names_fit : (l : Layout) → check_names l ≡ Ok tt → All (λ d. listed_name_fits d ≡ true) l.dynsyms
unfolding check_names
names_fit l h =
    let a = Both-from_first_error (fails 19 (unless (option_names_fit l.options))) _ h in
    let b = Both-from_first_error (fails 19 (first_failing name_fits 0 l.options.auxiliary)) _ a.rest in
    let c = Both-from_first_error (fails 19 (first_failing section_name_fits 0 l.sections)) _ b.rest in
    let d = Both-from_first_error (fails 19 (first_failing symbol_name_fits 0 l.symbols)) _ c.rest in
    let e = Both-from_first_error (fails 19 (first_failing group_names_fit 0 l.groups)) _ d.rest in
    let f = Both-from_first_error (fails 19 (first_failing listed_name_fits 0 l.dynsyms)) _ e.rest in
    All-from_none_fails listed_name_fits 0 l.dynsyms (None-from_fails 19 _ f.first)

-- ---- both clauses

pub AreExported-from_checks : (l : Layout) → check_dynsyms l ≡ Ok tt → check_names l ≡ Ok tt → AreExported l
unfolding check_dynsyms
AreExported-from_checks l h names =
    let a = Both-from_first_error (fails 13 (misplaced (dynamic_symbols l) 0 l.symbols)) (fails 13 (first_misplaced_listed l (first_listed l) 0 l.dynsyms)) h in
    record {
      indexed = has_entry l (None-from_fails 13 _ a.first);
      there = are_there l (first_listed l) 0 l.dynsyms (None-from_fails 13 _ a.rest);
      named = All-weaker (λ d. listed_name_fits d ≡ true) (λ d. HasNoZero d.name) (λ d t. has_no_zero d.name t) l.dynsyms (names_fit l names);
    }
