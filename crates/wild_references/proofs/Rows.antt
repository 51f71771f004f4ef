-- Which row of rewrites stands at a relocation, and that none does.
use Rattle.wild_references.proofs.Common.{◌≡◌, ℕ, zero, suc, ◌≤◌, inl, inr, Bool, true, false, List, [], ◌∷◌, length, refl, arith, subst, Option, Some, None, Ok, slice_get, ◌&&◌, ◌||◌, ◌==◌, not, if◌then◌else◌, Result, Err, cases_Bool, nat_tests, r_x86_64_pc32, InputRelocation, Item, Layout, is_executable, executable, UnknownSequence, Row, first_standing, row_or_fault, pattern_matches_before, cells_match_at, Question, relocation_of, minus_four, takes_symbol, takes_value, has_its_sequence, rows_x86_64, applies, unknown_sequence, first_row_x86_64, chosen_row_x86_64, is_mandatory, IsApplied, applied, question_of, choice_by, choice_of, is_thread_type, IsChosen, names_merged, info_by}
use Rattle.wild_relax.specs.declared.pattern.Pattern.TheVariants as pattern
use Rattle.wild_relax.proofs.RoomLemmas.{chosen_is}
use Rattle.wild_relax.specs.declared.row.Written.TheVariants as written

-- ---- the first row that stands

none_stands : {R : Type 0} (stands : R → Bool) (rows : List R) (n : ℕ) (r : R) → first_standing stands rows ≡ None → slice_get rows n ≡ Some r → stands r ≡ false
none_stands stands [] n r h e = cc
none_stands stands (x ∷ xs) n r h e = by_test stands x xs n r (stands x) refl h e (λ k. none_stands stands xs k r)
  where
    by_place : {R : Type 0} (stands : R → Bool) (x : R) (xs : List R) (n : ℕ) (r : R) → stands x ≡ false → first_standing stands xs ≡ None → slice_get (x ∷ xs) n ≡ Some r → ((k : ℕ) → first_standing stands xs ≡ None → slice_get xs k ≡ Some r → stands r ≡ false) → stands r ≡ false
    by_place stands x xs zero r f h e again = (let same : x ≡ r = cc in subst (λ y. stands y ≡ false) same f)
    by_place stands x xs (suc k) r f h e again = again k h e

    by_test : {R : Type 0} (stands : R → Bool) (x : R) (xs : List R) (n : ℕ) (r : R) (b : Bool) → stands x ≡ b → (if b then Some x else first_standing stands xs) ≡ None → slice_get (x ∷ xs) n ≡ Some r → ((k : ℕ) → first_standing stands xs ≡ None → slice_get xs k ≡ Some r → stands r ≡ false) → stands r ≡ false
    by_test stands x xs n r true f h e again = cc
    by_test stands x xs n r false f h e again = by_place stands x xs n r f h e again

checked_none : {R : Type 0} (has : R → Bool) (by : R → UnknownSequence) (o : Option R) → row_or_fault has by o ≡ Ok None → o ≡ None
checked_none has by None h = refl
checked_none has by (Some x) h =
    elim (cases_Bool (has x)) [
      | inl t ↦ cc (rw t at h)
      | inr f ↦ cc (rw f at h)
    ]

-- ---- the row of a question

not_chosen : (q : Question) (n : ℕ) (row : Row) → chosen_row_x86_64 q ≡ Ok None → slice_get rows_x86_64 n ≡ Some row → applies q row ≡ false
unfolding chosen_row_x86_64 first_row_x86_64
not_chosen q n row h e = none_stands (applies q) rows_x86_64 n row (checked_none (has_its_sequence q) (unknown_sequence q) (first_row_x86_64 q) h) e

all_of : (a b c d e f g h : Bool) → a ≡ true → b ≡ true → c ≡ true → d ≡ true → e ≡ true → f ≡ true → g ≡ true → h ≡ true → (a && b && c && d && e && f && g && h) ≡ true
all_of a b c d e f g h ea eb ec ed ee ef eg eh = rw (ea, eb, ec, ed, ee, ef, eg, eh) refl

pub row_applies : (q : Question) (row : Row) → ((relocation_of q).number == row.number) ≡ true → (q.relax || is_mandatory row.duty q) ≡ true → (not row.in_code || executable q.section_flags) ≡ true → takes_symbol row.symbol q ≡ true → (not row.thread_local || is_executable q.kind) ≡ true → takes_value row.value q ≡ true
    → (not row.ends || minus_four (relocation_of q).addend) ≡ true → (row.ignores_bytes || pattern_matches_before q.bytes (relocation_of q).offset row.required_bytes) ≡ true → applies q row ≡ true
unfolding applies
row_applies q row number duty section symbol thread value addend bytes = all_of _ _ _ _ _ _ _ _ number duty section symbol thread value addend bytes

-- no bytes stand wherever there are some behind them, or none
pub nothing_stands : (bs : List ℕ) (o : ℕ) → o ≤ length bs → pattern_matches_before bs o pattern.Nothing ≡ true
unfolding pattern_matches_before cells_match_at
nothing_stands bs o h = grind (arith, nat_tests, h)

-- ---- the choice of a relocation

-- what is chosen for a relocation stands there
pub chosen_row : (l : Layout) (s : Item) (r : InputRelocation) (next : Option InputRelocation) (row : Row) → (c : IsChosen l s r next row) → IsApplied (question_of l s r c.symbol next) row
chosen_row l s r next row c = applied (question_of l s r c.symbol next) row (chosen_is (question_of l s r c.symbol next) row c.chosen).here

-- of a type of thread-local storage the rows are asked, where it keeps its instruction
pub thread_asked : (l : Layout) (s : Item) (r : InputRelocation) (next : Option InputRelocation) (i : ℕ) → (r.number == r_x86_64_pc32) ≡ false → is_thread_type r.number ≡ true → choice_by l s r next (Some i) ≡ Ok None → chosen_row_x86_64 (question_of l s r i next) ≡ Ok None
unfolding choice_by
thread_asked l s r next i other thread h = by_tests (r.number == r_x86_64_pc32) (names_merged l (Some i)) (is_thread_type r.number) (record { number = r.number; written = info_by written.Nothing }) (chosen_row_x86_64 (question_of l s r i next)) other thread h
  where
    by_tests : (b m t : Bool) (e : UnknownSequence) (c : Result (Option Row) UnknownSequence) → b ≡ false → t ≡ true → (if b then Ok None else if m then (if t then Err e else Ok None) else c) ≡ Ok None → c ≡ Ok None
    by_tests false false t e c f g h = h
    by_tests false true true e c f g h = cc
    by_tests false true false e c f g h = cc
    by_tests true m t e c f g h = cc

-- where none is chosen no row stands
pub unchosen : (l : Layout) (s : Item) (r : InputRelocation) (next : Option InputRelocation) (i n : ℕ) (row : Row) → choice_of l s r next ≡ Ok None → r.symbol ≡ Some i → (r.number == r_x86_64_pc32) ≡ false → is_thread_type r.number ≡ true → slice_get rows_x86_64 n ≡ Some row → applies (question_of l s r i next) row ≡ false
unchosen l s r next i n row h named other thread listed =
    let q = question_of l s r i next in
    let here : choice_by l s r next (Some i) ≡ Ok None = subst (λ (o : Option ℕ). choice_by l s r next o ≡ Ok None) named h in
    let none : chosen_row_x86_64 q ≡ Ok None = thread_asked l s r next i other thread here in
    not_chosen q n row none listed
