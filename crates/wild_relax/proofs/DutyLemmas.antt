-- The duties of the tables' rows, and what their fields stand for.
use Rattle.std.proofs.Common.{◌≡◌, Bool, true, false, List, [], ◌∷◌, inl, inr, refl, sym, ap, ◌∙◌, subst}
use Rattle.std.specs.Prelude.{◌==◌, ◌&&◌, ◌||◌, not, cond, Option, Some, None, Ok, is_some, ◌⊎◌}
use Rattle.std.specs.List.{list_all}
use Rattle.std.proofs.lemmas.Bool.{and_parts, and_from, or_cases, or_right}
use Rattle.wild_words.proofs.Basics.{or_other, listed_passes}
use Rattle.wild_types.specs.declared.kind.Machine.{Machine}
use Rattle.wild_types.specs.declared.kind.Machine.TheVariants as machine
use Rattle.wild_types.specs.Flags.{has_flag, ifunc, undefined_weak}
use Rattle.wild_types.specs.Kinds.{is_executable}
use Rattle.wild_types.specs.Lookups.{executable}
use Rattle.wild_relax.specs.declared.pattern.Pattern.{Pattern}
use Rattle.wild_relax.specs.declared.pattern.Pattern.TheVariants as pattern
use Rattle.wild_relax.specs.declared.reference.RelocationInfo.{RelocationInfo}
use Rattle.wild_relax.specs.declared.reference.UnknownSequence.{UnknownSequence}
use Rattle.wild_relax.specs.declared.row.Duty.{Duty}
use Rattle.wild_relax.specs.declared.row.Duty.TheVariants as duty
use Rattle.wild_relax.specs.declared.row.Goal.TheVariants as goals
use Rattle.wild_relax.specs.declared.row.Made.{Made}
use Rattle.wild_relax.specs.declared.row.Made.TheVariants as made
use Rattle.wild_relax.specs.declared.row.Partner.{Partner}
use Rattle.wild_relax.specs.declared.row.Row.{Row}
use Rattle.wild_relax.specs.declared.row.SymbolTest.{SymbolTest}
use Rattle.wild_relax.specs.declared.row.SymbolTest.TheVariants as symbol
use Rattle.wild_relax.specs.declared.row.ValueTest.{ValueTest}
use Rattle.wild_relax.specs.declared.row.ValueTest.TheVariants as value
use Rattle.wild_relax.specs.declared.row.Written.{Written}
use Rattle.wild_relax.specs.declared.row.Written.TheVariants as written
use Rattle.wild_relax.specs.FirstRow.{first_standing, row_or_fault}
use Rattle.wild_relax.specs.LinkedPattern.{keeps_bytes}
use Rattle.wild_relax.specs.Pattern.{pattern_matches_before}
use Rattle.wild_relax.specs.Question.{Question, relocation_of, next_of, is_known, is_own, minus_four}
use Rattle.wild_relax.specs.Relaxation.{chosen_row_of}
use Rattle.wild_relax.specs.Rows.{rows_x86_64, applies, unknown_sequence, first_row_x86_64, chosen_row_x86_64}
use Rattle.wild_relax.specs.RowsAArch64.{rows_aarch64, applies_aarch64, has_its_words, first_row_aarch64, chosen_row_aarch64}
use Rattle.wild_relax.specs.RowSequences.{is_partner_at, has_its_sequence}
use Rattle.wild_relax.specs.RowSymbols.{takes_symbol, takes_value, is_mandatory}
use Rattle.wild_relax.specs.SequenceAArch64.{is_among, has_around}
use Rattle.wild_relax.specs.RowDuties.{RowsHaveDuties, without_rewriting, MandatoryRowsAlone, IsOwnAddress, IsOwnOffset, IsFixedAddress, IsOthers, SuitsField, FieldsSuitSymbols, AddendsAreChecked}
use Rattle.wild_relax.proofs.RoomLemmas.{checked_is, chosen_is, chosen_is_aarch64, applied}
use Rattle.wild_relax.proofs.SectionLemmas.{chosen_stand}

-- ---- the lists

pub rows_have_duties : RowsHaveDuties
unfolding rows_x86_64 rows_aarch64
rows_have_duties = record { x86_64 = refl; aarch64 = refl }

-- ---- the choice if rewriting is off

-- no condition but the first depends on it
same_duty : (d : Duty) (q : Question) → is_mandatory d (without_rewriting q) ≡ is_mandatory d q
same_duty duty.Never q = refl
same_duty duty.Static q = refl
same_duty duty.StaticAbsolute q = refl
same_duty duty.StaticMovable q = refl
same_duty duty.Always q = refl

same_symbol : (s : SymbolTest) (q : Question) → takes_symbol s (without_rewriting q) ≡ takes_symbol s q
same_symbol symbol.Ifunc q = refl
same_symbol symbol.Plain q = refl
same_symbol symbol.UndefinedWeak q = refl
same_symbol symbol.Any q = refl

same_value : (v : ValueTest) (q : Question) → takes_value v (without_rewriting q) ≡ takes_value v q
same_value value.Any q = refl
same_value value.Own q = refl
same_value value.OwnSigned q = refl
same_value value.OwnUnsigned q = refl
same_value value.OwnMoving q = refl
same_value value.OwnFixed q = refl
same_value (value.OwnNear behind) q = refl
same_value value.Interposable q = refl

same_around : (p : Pattern) (q : Question) → has_around (without_rewriting q) p ≡ has_around q p
unfolding is_among
same_around (pattern.Among s k) q = refl
same_around other q = refl

same_sequence : (q : Question) (row : Row) → has_its_sequence (without_rewriting q) row ≡ has_its_sequence q row
unfolding has_its_sequence
same_sequence q row = refl

-- a row's conditions besides that
record Rest (q : Question) (row : Row) : Type 0 where
  number : ((relocation_of q).number == row.number) ≡ true
  section : (not row.in_code || executable q.section_flags) ≡ true
  symbol : takes_symbol row.symbol q ≡ true
  thread : (not row.thread_local || is_executable q.kind) ≡ true
  value : takes_value row.value q ≡ true
  addend : (not row.ends || minus_four (relocation_of q).addend) ≡ true
  bytes : (row.ignores_bytes || pattern_matches_before q.bytes (relocation_of q).offset row.required_bytes) ≡ true

rest_of : (q : Question) (row : Row) → applies q row ≡ true → Rest q row
unfolding applies
rest_of q row h =
    let bytes = and_parts _ _ h in
    let addend = and_parts _ _ bytes.0 in
    let value = and_parts _ _ addend.0 in
    let thread = and_parts _ _ value.0 in
    let symbol = and_parts _ _ thread.0 in
    let section = and_parts _ _ symbol.0 in
    let number = and_parts _ _ section.0 in
    record { number = number.0; section = section.1; symbol = symbol.1; thread = thread.1; value = value.1; addend = addend.1; bytes = bytes.1 }

applies-from : (q : Question) (row : Row) → (q.relax || is_mandatory row.duty q) ≡ true → Rest q row → applies q row ≡ true
unfolding applies
applies-from q row on r =
    and_from _ _ (and_from _ _ (and_from _ _ (and_from _ _ (and_from _ _ (and_from _ _ (and_from _ _ r.number on) r.section) r.symbol) r.thread) r.value) r.addend) r.bytes

off_on : (q : Question) (row : Row) → applies (without_rewriting q) row ≡ true → applies q row ≡ true
off_on q row h =
    let r = rest_of (without_rewriting q) row h in
    let on = (applied (without_rewriting q) row h).on in
    applies-from q row (or_right q.relax _ (sym (same_duty row.duty q) ∙ on))
    (record { number = r.number; section = r.section; symbol = sym (same_symbol row.symbol q) ∙ r.symbol; thread = r.thread; value = sym (same_value row.value q) ∙ r.value; addend = r.addend; bytes = r.bytes })

on_off : (q : Question) (row : Row) → is_mandatory row.duty q ≡ true → applies q row ≡ true → applies (without_rewriting q) row ≡ true
on_off q row must h =
    let r = rest_of q row h in
    applies-from (without_rewriting q) row (same_duty row.duty q ∙ must)
    (record { number = r.number; section = r.section; symbol = same_symbol row.symbol q ∙ r.symbol; thread = r.thread; value = same_value row.value q ∙ r.value; addend = r.addend; bytes = r.bytes })

-- the first row of a weaker test, if it passes the stronger one, is the first there
still : {R : Type 0} (weak strong : R → Bool) (x : R) (xs : List R) (r : R) (a b : Bool) → weak x ≡ a → strong x ≡ b → (b ≡ true → a ≡ true) → (x ≡ r → b ≡ true)
    → (first_standing weak xs ≡ Some r → first_standing strong xs ≡ Some r) → cond a (Some x) (first_standing weak xs) ≡ Some r → cond b (Some x) (first_standing strong xs) ≡ Some r
still weak strong x xs r true true w s up must later e = e
still weak strong x xs r true false w s up must later e =
    let same : x ≡ r = cc in
    let bad : false ≡ true = must same in
    cc
still weak strong x xs r false true w s up must later e =
    let bad : false ≡ true = up refl in
    cc
still weak strong x xs r false false w s up must later e = later e

still_first : {R : Type 0} (weak strong : R → Bool) (rows : List R) (r : R) → ((x : R) → strong x ≡ true → weak x ≡ true) → strong r ≡ true → first_standing weak rows ≡ Some r → first_standing strong rows ≡ Some r
still_first weak strong [] r up must e = cc
still_first weak strong (x ∷ xs) r up must e =
    still weak strong x xs r (weak x) (strong x) refl refl (up x) (λ same. subst (λ y. strong y ≡ true) (sym same) must) (still_first weak strong xs r up must) e

chosen-from : {R : Type 0} (has : R → Bool) (by : R → UnknownSequence) (found : Option R) (r : R) → found ≡ Some r → has r ≡ true → row_or_fault has by found ≡ Ok (Some r)
chosen-from has by found r e h = ap (row_or_fault has by) e ∙ rw h refl

kept_x86_64 : (q : Question) (row : Row) → chosen_row_x86_64 q ≡ Ok (Some row) → is_mandatory row.duty q ≡ true → chosen_row_x86_64 (without_rewriting q) ≡ Ok (Some row)
unfolding chosen_row_x86_64 first_row_x86_64
kept_x86_64 q row e must =
    let good = checked_is (has_its_sequence q) (unknown_sequence q) (first_row_x86_64 q) row e in
    let here = (chosen_is q row e).here in
    chosen-from (has_its_sequence (without_rewriting q)) (unknown_sequence (without_rewriting q)) _ row
    (still_first (applies q) (applies (without_rewriting q)) rows_x86_64 row (off_on q) (on_off q row must here) good.same)
    (same_sequence q row ∙ good.whole)

off_on_words : (q : Question) (row : Row) → applies_aarch64 (without_rewriting q) row ≡ true → applies_aarch64 q row ≡ true
off_on_words q row h =
    let both = and_parts _ _ h in
    and_from _ _ (off_on q row both.0) (sym (same_around row.required_bytes q) ∙ both.1)

on_off_words : (q : Question) (row : Row) → is_mandatory row.duty q ≡ true → applies_aarch64 q row ≡ true → applies_aarch64 (without_rewriting q) row ≡ true
on_off_words q row must h =
    let both = and_parts _ _ h in
    and_from _ _ (on_off q row must both.0) (same_around row.required_bytes q ∙ both.1)

kept_aarch64 : (q : Question) (row : Row) → chosen_row_aarch64 q ≡ Ok (Some row) → is_mandatory row.duty q ≡ true → chosen_row_aarch64 (without_rewriting q) ≡ Ok (Some row)
unfolding chosen_row_aarch64 first_row_aarch64
kept_aarch64 q row e must =
    let good = checked_is (has_its_words q) (unknown_sequence q) (first_row_aarch64 q) row e in
    let here = (chosen_is_aarch64 q row e).here in
    let whole = and_parts _ _ good.whole in
    chosen-from (has_its_words (without_rewriting q)) (unknown_sequence (without_rewriting q)) _ row
    (still_first (applies_aarch64 q) (applies_aarch64 (without_rewriting q)) rows_aarch64 row (off_on_words q) (on_off_words q row must here) good.same)
    (and_from _ _ (same_sequence q row ∙ whole.0) (same_around row.needed q ∙ whole.1))

mandatory_alone : (m : Machine) (q : Question) (row : Row) → q.relax ≡ false → chosen_row_of m q ≡ Ok (Some row) → is_mandatory row.duty q ≡ true
mandatory_alone machine.X86_64 q row off e = or_other _ _ (applied q row (chosen_is q row e).here).on off
mandatory_alone machine.AArch64 q row off e = or_other _ _ (applied q row (and_parts _ _ (chosen_is_aarch64 q row e).here).0).on off

kept : (m : Machine) (q : Question) (row : Row) → chosen_row_of m q ≡ Ok (Some row) → is_mandatory row.duty q ≡ true → chosen_row_of m (without_rewriting q) ≡ Ok (Some row)
kept machine.X86_64 q row e must = kept_x86_64 q row e must
kept machine.AArch64 q row e must = kept_aarch64 q row e must

pub mandatory_rows_alone : MandatoryRowsAlone
mandatory_rows_alone = record { mandatory = mandatory_alone; kept = kept }

-- ---- fields

-- the tests of a row that give what its field needs
abbrev own_only : ValueTest → Bool
own_only value.Any = false
own_only value.Interposable = false
own_only other = true

abbrev held_only : ValueTest → Bool
held_only value.OwnSigned = true
held_only value.OwnUnsigned = true
held_only other = false

abbrev others_only : ValueTest → Bool
others_only value.Interposable = true
others_only other = false

abbrev direct_only : SymbolTest → Bool
direct_only symbol.Plain = true
direct_only symbol.UndefinedWeak = true
direct_only other = false

abbrev ifunc_only : SymbolTest → Bool
ifunc_only symbol.Ifunc = true
ifunc_only other = false

abbrev weak_only : SymbolTest → Bool
weak_only symbol.UndefinedWeak = true
weak_only other = false

own_of : (v : ValueTest) (q : Question) → own_only v ≡ true → takes_value v q ≡ true → is_own q ≡ true
own_of value.Any q t h = cc
own_of value.Interposable q t h = cc
own_of value.Own q t h = h
own_of value.OwnSigned q t h = (and_parts _ _ h).0
own_of value.OwnUnsigned q t h = (and_parts _ _ h).0
own_of value.OwnMoving q t h = (and_parts _ _ h).0
own_of value.OwnFixed q t h = (and_parts _ _ h).0
own_of (value.OwnNear behind) q t h = (and_parts _ _ (and_parts _ _ (and_parts _ _ h).0).0).0

held_own : (v : ValueTest) → held_only v ≡ true → own_only v ≡ true
held_own value.OwnSigned t = refl
held_own value.OwnUnsigned t = refl
held_own other t = cc

known_of : (v : ValueTest) (q : Question) → held_only v ≡ true → takes_value v q ≡ true → is_known q ≡ true
known_of value.OwnSigned q t h = (and_parts _ _ (and_parts _ _ h).1).0
known_of value.OwnUnsigned q t h = (and_parts _ _ (and_parts _ _ h).1).0
known_of other q t h = cc

flipped : (b : Bool) → not b ≡ true → b ≡ false
flipped true h = cc
flipped false h = refl

others_of : (v : ValueTest) (q : Question) → others_only v ≡ true → takes_value v q ≡ true → is_own q ≡ false
others_of value.Interposable q t h = flipped _ h
others_of other q t h = cc

direct_of : (s : SymbolTest) (q : Question) → direct_only s ≡ true → takes_symbol s q ≡ true → has_flag q.flags ifunc ≡ false
direct_of symbol.Plain q t h = flipped _ h
direct_of symbol.UndefinedWeak q t h = flipped _ (and_parts _ _ h).0
direct_of other q t h = cc

ifunc_of : (s : SymbolTest) (q : Question) → ifunc_only s ≡ true → takes_symbol s q ≡ true → has_flag q.flags ifunc ≡ true
ifunc_of symbol.Ifunc q t h = h
ifunc_of other q t h = cc

weak_of : (s : SymbolTest) (q : Question) → weak_only s ≡ true → takes_symbol s q ≡ true → has_flag q.flags undefined_weak ≡ true
weak_of symbol.UndefinedWeak q t h = (and_parts _ _ h).1
weak_of other q t h = cc

executable_of : (t : Bool) (q : Question) → t ≡ true → (not t || is_executable q.kind) ≡ true → is_executable q.kind ≡ true
executable_of true q t h = h
executable_of false q t h = cc

-- a row's tests
record Tests : Type 0 where
  symbol : SymbolTest
  value : ValueTest
  thread : Bool

abbrev tests_of : Row → Tests
tests_of row = record { symbol = row.symbol; value = row.value; thread = row.thread_local }

abbrev for_address : Tests → Bool
for_address t = direct_only t.symbol && own_only t.value

abbrev for_offset : Tests → Bool
for_offset t = t.thread && own_only t.value

abbrev for_slot : Tests → Bool
for_slot t = t.thread && others_only t.value

abbrev suits : Written → Tests → Bool
suits written.Nothing t = true
suits written.Pc32 t = for_address t
suits written.GotOff64 t = for_address t
suits written.AdrPrelLo21 t = for_address t
suits (written.Code d goals.Symbol) t = for_address t
suits written.Unsigned32 t = direct_only t.symbol && held_only t.value
suits written.Signed32 t = direct_only t.symbol && held_only t.value
suits written.TpOff32 t = for_offset t
suits written.TlsLeMovwTprelG1 t = for_offset t
suits written.TlsLeMovwTprelG0Nc t = for_offset t
suits written.Plt32 t = ifunc_only t.symbol
suits (written.Code d goals.Stub) t = ifunc_only t.symbol || weak_only t.symbol && others_only t.value
suits written.GotTpOff t = for_slot t
suits written.TlsIeAdrGotTprelPage21 t = for_slot t
suits written.TlsIeLd64GotTprelLo12Nc t = for_slot t

-- what a question that passes them has
record Pass (t : Tests) (q : Question) : Type 0 where
  symbol : takes_symbol t.symbol q ≡ true
  value : takes_value t.value q ≡ true
  thread : (not t.thread || is_executable q.kind) ≡ true

address_of : (t : Tests) (q : Question) → Pass t q → for_address t ≡ true → IsOwnAddress q
address_of t q p h =
    let both = and_parts _ _ h in
    record { own = own_of t.value q both.1 p.value; direct = direct_of t.symbol q both.0 p.symbol }

fixed_of : (t : Tests) (q : Question) → Pass t q → (direct_only t.symbol && held_only t.value) ≡ true → IsFixedAddress q
fixed_of t q p h =
    let both = and_parts _ _ h in
    record {
      address = record { own = own_of t.value q (held_own t.value both.1) p.value; direct = direct_of t.symbol q both.0 p.symbol };
      known = known_of t.value q both.1 p.value;
    }

offset_of : (t : Tests) (q : Question) → Pass t q → for_offset t ≡ true → IsOwnOffset q
offset_of t q p h =
    let both = and_parts _ _ h in
    record { own = own_of t.value q both.1 p.value; executable = executable_of t.thread q both.0 p.thread }

slot_of : (t : Tests) (q : Question) → Pass t q → for_slot t ≡ true → (is_executable q.kind ≡ true) × IsOthers q
slot_of t q p h =
    let both = and_parts _ _ h in
    (executable_of t.thread q both.0 p.thread, others_of t.value q both.1 p.value)

stub_of : (t : Tests) (q : Question) → Pass t q → (ifunc_only t.symbol || weak_only t.symbol && others_only t.value) ≡ true → (has_flag q.flags ifunc ≡ true) ⊎ ((has_flag q.flags undefined_weak ≡ true) × IsOthers q)
stub_of t q p h =
    elim (or_cases _ _ h) [
      | inl i ↦ inl (ifunc_of t.symbol q i p.symbol)
      | inr w ↦ inr (weak_of t.symbol q (and_parts _ _ w).0 p.symbol, others_of t.value q (and_parts _ _ w).1 p.value)
    ]

field_suits : (w : Written) (t : Tests) (q : Question) → Pass t q → suits w t ≡ true → SuitsField w q
field_suits written.Nothing t q p h = tt
field_suits written.Pc32 t q p h = address_of t q p h
field_suits written.GotOff64 t q p h = address_of t q p h
field_suits written.AdrPrelLo21 t q p h = address_of t q p h
field_suits (written.Code d goals.Symbol) t q p h = address_of t q p h
field_suits written.Unsigned32 t q p h = fixed_of t q p h
field_suits written.Signed32 t q p h = fixed_of t q p h
field_suits written.TpOff32 t q p h = offset_of t q p h
field_suits written.TlsLeMovwTprelG1 t q p h = offset_of t q p h
field_suits written.TlsLeMovwTprelG0Nc t q p h = offset_of t q p h
field_suits written.Plt32 t q p h = ifunc_of t.symbol q h p.symbol
field_suits (written.Code d goals.Stub) t q p h = stub_of t q p h
field_suits written.GotTpOff t q p h = slot_of t q p h
field_suits written.TlsIeAdrGotTprelPage21 t q p h = slot_of t q p h
field_suits written.TlsIeLd64GotTprelLo12Nc t q p h = slot_of t q p h

each_suits : list_all (λ (row : Row). suits row.written (tests_of row)) rows_x86_64 ≡ true
unfolding rows_x86_64
each_suits = refl

each_word_suits : list_all (λ (row : Row). suits row.written (tests_of row)) rows_aarch64 ≡ true
unfolding rows_aarch64
each_word_suits = refl

row_suits : (q : Question) (row : Row) → applies q row ≡ true → suits row.written (tests_of row) ≡ true → SuitsField row.written q
row_suits q row here h =
    let a = applied q row here in
    field_suits row.written (tests_of row) q (record { symbol = a.symbol; value = a.value; thread = a.thread }) h

pub fields_suit : FieldsSuitSymbols
fields_suit machine.X86_64 q row e =
    let c = chosen_is q row e in
    row_suits q row c.here (listed_passes (λ (r : Row). suits r.written (tests_of r)) rows_x86_64 row each_suits c.listed)
fields_suit machine.AArch64 q row e =
    let c = chosen_is_aarch64 q row e in
    row_suits q row (and_parts _ _ c.here).0 (listed_passes (λ (r : Row). suits r.written (tests_of r)) rows_aarch64 row each_word_suits c.listed)

-- ---- addends

abbrev is_nop : Made → Bool
is_nop made.Nop = true
is_nop other = false

nop_is : (m : Made) → is_nop m ≡ true → m ≡ made.Nop
nop_is made.Nop t = refl
nop_is other t = cc

-- the row checks the addend, by itself or with its sequence
abbrev checks_end : Row → Bool
checks_end row = keeps_bytes row || (is_nop row.made || ((row.ends || row.needs_end) || is_some row.partner))

each_checks : list_all checks_end rows_x86_64 ≡ true
unfolding rows_x86_64
each_checks = refl

by_partner : (r : RelocationInfo) (p : Option Partner) (next : Option RelocationInfo) → is_some p ≡ true → is_partner_at r p next ≡ true → minus_four r.addend ≡ true
by_partner r None next s h = cc
by_partner r (Some p) None s h = cc
by_partner r (Some p) (Some n) s h = (and_parts _ _ h).0

by_end : (e m : Bool) → e ≡ true → (not e || m) ≡ true → m ≡ true
by_end true m t h = h
by_end false m t h = cc

pub addends_are_checked : AddendsAreChecked
addends_are_checked q row e changes other =
    let s = chosen_stand q row e in
    let left = or_other (keeps_bytes row) _ (listed_passes checks_end rows_x86_64 row each_checks s.listed) changes in
    elim (or_cases _ _ left) [
      | inl n ↦ absurd (other (nop_is row.made n))
      | inr r ↦ elim (or_cases _ _ r) [
        | inl t ↦ by_end (row.ends || row.needs_end) (minus_four (relocation_of q).addend) t s.taken.addend
        | inr p ↦ by_partner (relocation_of q) row.partner (next_of q) p s.taken.partner
      ]
    ]
