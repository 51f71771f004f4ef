-- What it says that the clauses on slots and on flags hold.
use Rattle.wild_geometry.proofs.Common.{◌≡◌, ℕ, zero, suc, ◌+◌, ◌<◌, inl, inr, Bool, true, false, All, List, [], ◌∷◌, length, get_or, Option, Some, None, Ok, refl, sym, ap, ◌∙◌, arith, subst, ◌==◌, ◌&&◌, ◌||◌, not, if◌then◌else◌, is_some, option_and_then, slice_get, cases_Bool, eq-eqb, eqb-true, get_or_from_slice_get, slice_get_within, holds_at, Layout, Symbol, files_of, first_failing, unless, fails, check_indexes, part_index_fits, symbol_misfit, group_indexes_fit, All-from_none_fails, None-from_fails}
use Rattle.std.specs.Prelude.{unwrap_or}
use Rattle.wild_types.specs.Lookups.{canonical}
use Rattle.wild_plan_rules.specs.SlotPlaces.{slots_astray, slot_is_even, block_needs_relr, block_has_base, pair_follows, pair_follows_by}
use Rattle.wild_plan_rules.specs.SlotFlags.{is_tested, first_tested_failing, dynamic_is_interposable, stub_is_value, stub_has_slot, one_slot_for_address, thread_slot_alone, resolver_is_own, slot_agrees, resolver_moves, second_slot_fits}
use Rattle.wild_plan_rules.specs.ClauseTests.{check_slots, check_slot_flags}
use Rattle.wild_plan_rules.specs.Indexes.{primary_is_there, thunks_are_there, listed_misfit, sorted_is_there, merged_is_there, identity_is_there, entry_is_there, definition_is_own, defines_itself}
use Rattle.wild_types.specs.FileSymbols.{first_double_copy}
use Rattle.wild_plan_rules.specs.VersionTables.{parent_is_there}
use Rattle.wild_layout.specs.Geometry.{DefinitionsAreFinal}
use Rattle.wild_layout.specs.SlotOrder.{SlotsFollow, FlagsAgree, EachAgrees, SlotsAreInOrder}
use Rattle.wild_geometry.proofs.ClauseLemmas.{Both-from_first_error, holds_from_unless, NoneFails-from_first_clause, SharesHold-from_check}

-- ---- clause 11

pub SlotsFollow-from_check : (l : Layout) → check_slots l ≡ Ok tt → SlotsFollow l
unfolding check_slots
SlotsFollow-from_check l h =
    let a = Both-from_first_error (fails 11 (slots_astray l)) _ h in
    let b = Both-from_first_error (fails 11 (first_failing slot_is_even 0 l.symbols)) _ a.rest in
    let c = Both-from_first_error (fails 11 (first_failing (block_needs_relr l) 0 l.parts)) _ b.rest in
    let d = Both-from_first_error (fails 11 (unless (pair_follows l))) _ c.rest in
    let pair = holds_from_unless (pair_follows l) (None-from_fails 11 _ d.first) in
    record {
      placed = None-from_fails 11 _ a.first;
      even = All-from_none_fails slot_is_even 0 l.symbols (None-from_fails 11 _ b.first);
      pair = λ at e. eqb-true _ _ (subst (λ (o : Option ℕ). pair_follows_by l o ≡ true) e pair);
      based = All-from_none_fails block_has_base 0 l.parts (None-from_fails 11 _ d.rest);
    }

-- ---- clause 14

-- a symbol that is asked passes
asked_at : (l : Layout) (t : Symbol → Bool) (i k j : ℕ) (ss : List Symbol) (d : Symbol) → j ≡ i + k → k < length ss → first_tested_failing l t i ss ≡ None → is_tested l j (get_or ss k d) ≡ true → t (get_or ss k d) ≡ true
asked_at l t i k j [] d e low none a = absurd (omega (arith, low))
asked_at l t i zero j (s ∷ ss) d e low none a =
    let same : j ≡ i = omega (arith, e) in
    let here : is_tested l i s ≡ true = subst (λ (n : ℕ). is_tested l n s ≡ true) same a in
    elim (cases_Bool (t s)) [
      | inl y ↦ y
      | inr n ↦ cc (rw (here, n) at none)
    ]
asked_at l t i (suc k) j (s ∷ ss) d e low none a =
    asked_at l t (i + 1) k j ss d (omega (arith, e)) (omega (arith, low)) (behind (is_tested l i s && not (t s)) none) a
  where
    behind : (b : Bool) → (if b then Some i else first_tested_failing l t (i + 1) ss) ≡ None → first_tested_failing l t (i + 1) ss ≡ None
    behind true h = cc
    behind false h = h

asked : (l : Layout) (t : Symbol → Bool) (i : ℕ) (s : Symbol) → first_tested_failing l t 0 l.symbols ≡ None → slice_get l.symbols i ≡ Some s → is_tested l i s ≡ true → t s ≡ true
asked l t i s none e a =
    let is : get_or l.symbols i s ≡ s = get_or_from_slice_get l.symbols i s s e in
    subst (λ (x : Symbol). t x ≡ true) is (asked_at l t 0 i i l.symbols s (omega arith) (slice_get_within l.symbols i s e) none (subst (λ (x : Symbol). is_tested l i x ≡ true) (sym is) a))

-- what clause 14 says of a symbol that is asked
agrees : (l : Layout) → check_slot_flags l ≡ Ok tt → (i : ℕ) (s : Symbol) → slice_get l.symbols i ≡ Some s → is_tested l i s ≡ true → FlagsAgree l s
unfolding check_slot_flags
agrees l h i s at is =
    let a = Both-from_first_error (fails 14 (first_tested_failing l dynamic_is_interposable 0 l.symbols)) _ h in
    let b = Both-from_first_error (fails 14 (first_tested_failing l stub_is_value 0 l.symbols)) _ a.rest in
    let c = Both-from_first_error (fails 14 (first_tested_failing l stub_has_slot 0 l.symbols)) _ b.rest in
    let d = Both-from_first_error (fails 14 (first_tested_failing l one_slot_for_address 0 l.symbols)) _ c.rest in
    let e = Both-from_first_error (fails 14 (first_tested_failing l thread_slot_alone 0 l.symbols)) _ d.rest in
    let f = Both-from_first_error (fails 14 (first_tested_failing l resolver_is_own 0 l.symbols)) _ e.rest in
    let g = Both-from_first_error (fails 14 (first_tested_failing l slot_agrees 0 l.symbols)) _ f.rest in
    let m = Both-from_first_error (fails 14 (first_tested_failing l resolver_moves 0 l.symbols)) _ g.rest in
    record {
      interposable = asked l dynamic_is_interposable i s (None-from_fails 14 _ a.first) at is;
      stub = asked l stub_has_slot i s (None-from_fails 14 _ c.first) at is;
      alone = asked l thread_slot_alone i s (None-from_fails 14 _ e.first) at is;
      chosen = asked l resolver_is_own i s (None-from_fails 14 _ f.first) at is;
      sorts = asked l slot_agrees i s (None-from_fails 14 _ g.first) at is;
      moves = asked l resolver_moves i s (None-from_fails 14 _ m.first) at is;
      second = asked l (second_slot_fits l) i s (None-from_fails 14 _ m.rest) at is;
    }

-- ---- a definition is its own (clause 9)

definitions_are_own : (l : Layout) → check_indexes l ≡ Ok tt → All (λ (s : Symbol). definition_is_own l s ≡ true) l.symbols
unfolding check_indexes
definitions_are_own l h =
    let a = Both-from_first_error (fails 9 (first_failing (part_index_fits l) 0 l.parts)) _ h in
    let t = Both-from_first_error (fails 9 (unless (primary_is_there l))) _ a.rest in
    let b = Both-from_first_error (fails 9 (symbol_misfit l (files_of l.groups) 0 l.symbols)) _ t.rest in
    let c = Both-from_first_error (fails 9 (first_failing (group_indexes_fit l) 0 l.groups)) _ b.rest in
    let d = Both-from_first_error (fails 9 (listed_misfit l)) _ c.rest in
    let e = Both-from_first_error (fails 9 (first_failing (parent_is_there l) 0 l.verdefs)) _ d.rest in
    let u = Both-from_first_error (fails 9 (first_failing (thunks_are_there l) 0 l.thunk_blocks)) _ e.rest in
    let v = Both-from_first_error (fails 9 (first_failing (sorted_is_there l) 0 l.sorted)) _ u.rest in
    let w = Both-from_first_error (fails 9 (first_failing (merged_is_there l) 0 l.merged)) _ v.rest in
    let x = Both-from_first_error (fails 9 (unless (identity_is_there l))) _ w.rest in
    let f = Both-from_first_error (fails 9 (unless (entry_is_there l l.entry))) _ x.rest in
    let g = Both-from_first_error (fails 9 (first_double_copy l [] 0 l.groups)) _ f.rest in
    let m = Both-from_first_error (fails 9 (first_failing (definition_is_own l) 0 l.symbols)) _ g.rest in
    All-from_none_fails (definition_is_own l) 0 l.symbols (None-from_fails 9 _ m.first)

final : (l : Layout) (c : ℕ) (o : Option Symbol) → slice_get l.symbols c ≡ o → defines_itself c o ≡ true → canonical l c ≡ c
final l c None e h = ap (λ (o : Option Symbol). unwrap_or (option_and_then (λ (y : Symbol). y.definition) o) c) e
final l c (Some s) e h = ap (λ (o : Option Symbol). unwrap_or (option_and_then (λ (y : Symbol). y.definition) o) c) e ∙ by_definition s.definition refl h
  where
    by_definition : (o : Option ℕ) → s.definition ≡ o → defines_itself c (Some s) ≡ true → unwrap_or s.definition c ≡ c
    by_definition None is t = rw is refl
    by_definition (Some j) is t = rw is (eqb-true j c (rw is at t))

pub DefinitionsAreFinal-from_check : (l : Layout) → check_indexes l ≡ Ok tt → DefinitionsAreFinal l
DefinitionsAreFinal-from_check l h = λ i. by_symbol i (slice_get l.symbols i) refl
  where
    by_definition : (i : ℕ) (s : Symbol) (o : Option ℕ) → slice_get l.symbols i ≡ Some s → s.definition ≡ o → canonical l (canonical l i) ≡ canonical l i
    by_definition i s None e is = (let itself : canonical l i ≡ i = rw (e, is) refl in ap (canonical l) itself)
    by_definition i s (Some c) e is =
        let named : canonical l i ≡ c = rw (e, is) refl in
        let own = holds_at (λ (x : Symbol). definition_is_own l x ≡ true) l.symbols i s e (definitions_are_own l h) in
        ap (canonical l) named ∙ (final l c (slice_get l.symbols c) refl (rw is at own) ∙ sym named)

    by_symbol : (i : ℕ) (o : Option Symbol) → slice_get l.symbols i ≡ o → canonical l (canonical l i) ≡ canonical l i
    by_symbol i None e = (let itself : canonical l i ≡ i = rw e refl in ap (canonical l) itself)
    by_symbol i (Some s) e = by_definition i s s.definition e refl

pub EachAgrees-from_checks : (l : Layout) → check_indexes l ≡ Ok tt → check_slot_flags l ≡ Ok tt → EachAgrees l
EachAgrees-from_checks l indexes flags = record {
  defined = λ i s e. agrees l flags (canonical l i) s e (let same : (canonical l (canonical l i) == canonical l i) ≡ true = eq-eqb _ _ (DefinitionsAreFinal-from_check l indexes i) in rw same refl);
  resolved = λ i s e some. agrees l flags i s e (or_right (canonical l i == i) (is_some s.resolution) some);
}
  where
    or_right : (a b : Bool) → b ≡ true → (a || b) ≡ true
    or_right true b h = refl
    or_right false b h = h

-- ---- the order of slots

pub slots_in_order : SlotsAreInOrder
slots_in_order = λ l h own.
    let c = NoneFails-from_first_clause l h in
    record { slots = SlotsFollow-from_check l c.slots; flags = EachAgrees-from_checks l c.indexes c.slot_flags; resolved = own; files = (SharesHold-from_check l c.shares).files }
