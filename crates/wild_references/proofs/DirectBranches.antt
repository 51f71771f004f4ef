-- A branch that goes directly to its symbol is written so by a row: of one that is decided of by itself the judge does not say that it does.
use Rattle.wild_references.proofs.Common.{◌≡◌, ℕ, ◌+◌, ◌<◌, ◌≤◌, ◌⊎◌, inl, inr, Bool, true, false, List, [], ◌∷◌, length, get_or, zero, suc, refl, sym, ap, ◌∙◌, arith, subst, Option, Some, None, Ok, Err, All, ◌==◌, ◌||◌, not, if◌then◌else◌, is_some, slice_get, cases_Bool, and_from, eq-eqb, le-leb, Machine, OutputKind, InputRelocation, MergedString, Layout, Item, has_flag, interposable, non_interposable, ifunc, is_executable, is_static_executable, executable, flags_at, Pattern, RelocationInfo, UnknownSequence, Duty, Row, SymbolTest, ValueTest, first_standing, row_or_fault, pattern_matches_before, cells_match_at, Question, relocation_of, minus_four, has_its_sequence, takes_value, takes_symbol, is_mandatory, rows_x86_64, applies, unknown_sequence, first_row_x86_64, chosen_row_x86_64, rows_aarch64, chosen_row_aarch64, Decision, nameless, question_of, question_around, choice_by, choice_on, choice, DefinitionNames, merged_strings, names_merged, relocation_around, IsOwn, own_choice, NamesStrings, code_bit, flag_is}
use Rattle.wild_records.specs.Abi.Relocation as abi
use Rattle.wild_types.specs.declared.kind.Machine.TheVariants as machine
use Rattle.wild_types.specs.declared.kind.OutputKind.TheVariants as output
use Rattle.wild_relax.specs.declared.pattern.Pattern.TheVariants as pattern
use Rattle.wild_relax.specs.declared.row.Duty.TheVariants as duty
use Rattle.wild_relax.specs.declared.row.SymbolTest.TheVariants as symbol
use Rattle.wild_relax.specs.declared.row.ValueTest.TheVariants as value
use Rattle.wild_relax.specs.declared.table.TheConstants.{PLT}
use Rattle.wild_relax.specs.Relaxation.{chosen_row_of}
use Rattle.wild_relax.specs.RowsAArch64.{applies_aarch64, has_its_words, first_row_aarch64}
use Rattle.wild_relax.specs.SequenceAArch64.{has_around}
use Rattle.wild_layout.specs.Choice.{choice_merged}
use Rattle.wild_layout.proofs.QuestionLemmas.{around_choice}
use Rattle.wild_meaning.specs.Reference.{HasNoDynamicLinker, BranchesDirectly}
use Rattle.wild_references.proofs.KnownRows.{IsStubType}
use Rattle.wild_references.proofs.MergedStrings.{has_strings}

-- ---- a row of branches

-- what such a row asks: an own symbol that no resolver answers for
record IsPlainRow (row : Row) (n : ℕ) : Type 0 where
  number : row.number ≡ n
  plain : row.symbol ≡ symbol.Plain
  own : row.value ≡ value.Own
  static : row.duty ≡ duty.Static
  thread : row.thread_local ≡ false
  ends : row.ends ≡ false
  required_bytes : row.required_bytes ≡ pattern.Nothing

-- and what is asked of
record IsPlain (q : Question) (n : ℕ) : Type 0 where
  number : (relocation_of q).number ≡ n
  on : (q.relax ≡ true) ⊎ (is_static_executable q.kind ≡ true)
  code : executable q.section_flags ≡ true
  plain : has_flag q.flags ifunc ≡ false
  own : interposable q.flags ≡ false
  room : (relocation_of q).offset ≤ length q.bytes

or_true : (b : Bool) → (b || true) ≡ true
or_true true = refl
or_true false = refl

nothing_stands : (bs : List ℕ) (o : ℕ) → o ≤ length bs → pattern_matches_before bs o pattern.Nothing ≡ true
unfolding pattern_matches_before cells_match_at
nothing_stands bs o h = and_from _ _ (le-leb 0 o (omega arith)) (and_from _ _ (le-leb _ _ (omega (arith, h))) refl)

asked_on : (q : Question) → (q.relax ≡ true) ⊎ (is_static_executable q.kind ≡ true) → (q.relax || is_mandatory duty.Static q) ≡ true
asked_on q (inl e) = subst (λ (b : Bool). (b || is_static_executable q.kind) ≡ true) (sym e) refl
asked_on q (inr e) = subst (λ (b : Bool). (q.relax || b) ≡ true) (sym e) (or_true q.relax)

plain_applies : (q : Question) (row : Row) (n : ℕ) → IsPlainRow row n → IsPlain q n → applies q row ≡ true
unfolding applies
plain_applies q row n p a = and_from _ _ (and_from _ _ (and_from _ _ (and_from _ _ (and_from _ _ (and_from _ _ (and_from _ _ number on) section) symbols) thread) values) addend) bytes
  where
    number : ((relocation_of q).number == row.number) ≡ true
    number = eq-eqb _ _ (a.number ∙ sym p.number)

    on : (q.relax || is_mandatory row.duty q) ≡ true
    on = subst (λ (d : Duty). (q.relax || is_mandatory d q) ≡ true) (sym p.static) (asked_on q a.on)

    section : (not row.in_code || executable q.section_flags) ≡ true
    section = subst (λ (b : Bool). (not row.in_code || b) ≡ true) (sym a.code) (or_true (not row.in_code))

    symbols : takes_symbol row.symbol q ≡ true
    symbols = subst (λ (t : SymbolTest). takes_symbol t q ≡ true) (sym p.plain) (subst (λ (b : Bool). not b ≡ true) (sym a.plain) refl)

    thread : (not row.thread_local || is_executable q.kind) ≡ true
    thread = subst (λ (b : Bool). (not b || is_executable q.kind) ≡ true) (sym p.thread) refl

    values : takes_value row.value q ≡ true
    values = subst (λ (t : ValueTest). takes_value t q ≡ true) (sym p.own) (subst (λ (b : Bool). not b ≡ true) (sym a.own) refl)

    addend : (not row.ends || minus_four (relocation_of q).addend) ≡ true
    addend = subst (λ (b : Bool). (not b || minus_four (relocation_of q).addend) ≡ true) (sym p.ends) refl

    bytes : (row.ignores_bytes || pattern_matches_before q.bytes (relocation_of q).offset row.required_bytes) ≡ true
    bytes = subst (λ (t : Pattern). (row.ignores_bytes || pattern_matches_before q.bytes (relocation_of q).offset t) ≡ true) (sym p.required_bytes) (subst (λ (b : Bool). (row.ignores_bytes || b) ≡ true) (sym (nothing_stands q.bytes (relocation_of q).offset a.room)) (or_true row.ignores_bytes))

words_apply : (q : Question) (row : Row) (n : ℕ) → IsPlainRow row n → IsPlain q n → applies_aarch64 q row ≡ true
words_apply q row n p a = and_from _ _ (plain_applies q row n p a) (subst (λ (t : Pattern). has_around q t ≡ true) (sym p.required_bytes) refl)

-- ---- where no row is chosen none stands

later : (b : Bool) (r : Row) (o : Option Row) → (if b then Some r else o) ≡ None → (b ≡ false) × (o ≡ None)
later true r o h = cc
later false r o h = (refl, h)

none_at : (stands : Row → Bool) (rows : List Row) (k : ℕ) (d : Row) → k < length rows → first_standing stands rows ≡ None → stands (get_or rows k d) ≡ false
none_at stands [] k d lt h = absurd (omega (arith, lt))
none_at stands (r ∷ rs) zero d lt h = (later (stands r) r (first_standing stands rs) h).0
none_at stands (r ∷ rs) (suc k) d lt h = none_at stands rs k d (omega (arith, lt)) (later (stands r) r (first_standing stands rs) h).1

none_found : (has : Row → Bool) (by : Row → UnknownSequence) (o : Option Row) → row_or_fault has by o ≡ Ok None → o ≡ None
none_found has by None h = refl
none_found has by (Some r) h = found (has r) h
  where
    found : (b : Bool) → (if b then Ok (Some r) else Err (by r)) ≡ Ok None → Some r ≡ None
    found true h = cc
    found false h = cc

none_stands : (q : Question) → chosen_row_x86_64 q ≡ Ok None → first_standing (applies q) rows_x86_64 ≡ None
unfolding chosen_row_x86_64 first_row_x86_64
none_stands q h = none_found (has_its_sequence q) (unknown_sequence q) (first_row_x86_64 q) h

no_word_stands : (q : Question) → chosen_row_aarch64 q ≡ Ok None → first_standing (applies_aarch64 q) rows_aarch64 ≡ None
unfolding chosen_row_aarch64 first_row_aarch64
no_word_stands q h = none_found (has_its_words q) (unknown_sequence q) (first_row_aarch64 q) h

-- ---- the rows

-- the row at a place of a table is such a row
record IsAt (rows : List Row) (k n : ℕ) : Type 0 where
  inside : k < length rows
  plain : IsPlainRow (get_or rows k PLT) n

stub_distance : IsAt rows_x86_64 18 abi.r_x86_64_plt32
unfolding rows_x86_64
stub_distance = record { inside = omega arith; plain = record { number = refl; plain = refl; own = refl; static = refl; thread = refl; ends = refl; required_bytes = refl } }

stub_offset : IsAt rows_x86_64 19 abi.r_x86_64_pltoff64
unfolding rows_x86_64
stub_offset = record { inside = omega arith; plain = record { number = refl; plain = refl; own = refl; static = refl; thread = refl; ends = refl; required_bytes = refl } }

stub_word : IsAt rows_aarch64 0 abi.r_aarch64_plt32
unfolding rows_aarch64
stub_word = record { inside = omega arith; plain = record { number = refl; plain = refl; own = refl; static = refl; thread = refl; ends = refl; required_bytes = refl } }

jump_word : IsAt rows_aarch64 4 abi.r_aarch64_jump26
unfolding rows_aarch64
jump_word = record { inside = omega arith; plain = record { number = refl; plain = refl; own = refl; static = refl; thread = refl; ends = refl; required_bytes = refl } }

call_word : IsAt rows_aarch64 6 abi.r_aarch64_call26
unfolding rows_aarch64
call_word = record { inside = omega arith; plain = record { number = refl; plain = refl; own = refl; static = refl; thread = refl; ends = refl; required_bytes = refl } }

row_stands : (q : Question) (k n : ℕ) → IsAt rows_x86_64 k n → IsPlain q n → chosen_row_x86_64 q ≡ Ok None → ⊥
row_stands q k n at plain none = (let e = none_at (applies q) rows_x86_64 k PLT at.inside (none_stands q none) in let both : true ≡ false = sym (plain_applies q (get_or rows_x86_64 k PLT) n at.plain plain) ∙ e in cc)

word_stands : (q : Question) (k n : ℕ) → IsAt rows_aarch64 k n → IsPlain q n → chosen_row_aarch64 q ≡ Ok None → ⊥
word_stands q k n at plain none = (let e = none_at (applies_aarch64 q) rows_aarch64 k PLT at.inside (no_word_stands q none) in let both : true ≡ false = sym (words_apply q (get_or rows_aarch64 k PLT) n at.plain plain) ∙ e in cc)

-- ---- the symbol

-- a symbol that the writer takes for merged strings is one to the judge
merged_named : (l : Layout) (r : InputRelocation) (k : ℕ) → All (DefinitionNames l) l.symbols → r.symbol ≡ Some k → names_merged l r.symbol ≡ true → NamesStrings l r
merged_named l r k names named h = by (merged_strings l k) refl (subst (λ (o : Option ℕ). names_merged l o ≡ true) named h)
  where
    by : (o : Option (List MergedString)) → merged_strings l k ≡ o → is_some o ≡ true → NamesStrings l r
    by None e h = cc
    by (Some strings) e h = record { symbol = k; named = named; strings = strings; has = has_strings l k strings names e }

unmerged : (l : Layout) (r : InputRelocation) (k : ℕ) → All (DefinitionNames l) l.symbols → r.symbol ≡ Some k → (NamesStrings l r → ⊥) → names_merged l r.symbol ≡ false
unmerged l r k names named none = elim (cases_Bool (names_merged l r.symbol)) [ inr f ↦ f | inl t ↦ absurd (none (merged_named l r k names named t)) ]

alone_static : (k : OutputKind) → HasNoDynamicLinker k → is_static_executable k ≡ true
alone_static (output.StaticExecutable any) h = refl
alone_static (output.DynamicExecutable any) h = absurd h
alone_static output.SharedObject h = absurd h
alone_static output.PartialObject h = absurd h

-- ---- what is asked of the rows

asked_x86_64 : (l : Layout) (s : Item) (r : InputRelocation) (next : Option InputRelocation) (k : ℕ) → choice_by l s r next (Some k) ≡ Ok None → (r.number == abi.r_x86_64_pc32) ≡ false → names_merged l (Some k) ≡ false → chosen_row_x86_64 (question_of l s r k next) ≡ Ok None
unfolding choice_by
asked_x86_64 l s r next k h other plain = by (r.number == abi.r_x86_64_pc32) (names_merged l (Some k)) other plain h
  where
    by : (a b : Bool) → a ≡ false → b ≡ false → (if a then Ok None else if b then choice_merged r else chosen_row_x86_64 (question_of l s r k next)) ≡ Ok None → chosen_row_x86_64 (question_of l s r k next) ≡ Ok None
    by true b e f h = cc
    by false true e f h = cc
    by false false e f h = h

-- a branch that goes directly is not decided of by itself
pub own_directly : (l : Layout) (s : Item) (i : ℕ) (r : InputRelocation) (d : Decision) (k : ℕ) → IsOwn l s i r d → slice_get s.relocations i ≡ Some r → r.offset ≤ length s.bytes → All (DefinitionNames l) l.symbols → r.symbol ≡ Some k → IsStubType l.machine r.number → BranchesDirectly l s r k → ⊥
own_directly l s i r d k own listed room names named type g = by_machine l.machine refl type
  where
    free : interposable (flags_at l k) ≡ false
    free = ap (λ (b : Bool). not b) (flag_is l k non_interposable true g.own)

    direct : has_flag (flags_at l k) ifunc ≡ false
    direct = flag_is l k ifunc false g.plain

    on : (l.options.relax ≡ true) ⊎ (is_static_executable l.kind ≡ true)
    on = elim g.rewritten [ inl e ↦ inl e | inr alone ↦ inr (alone_static l.kind alone) ]

    plain : names_merged l r.symbol ≡ false
    plain = unmerged l r k names named g.whole

    next : Option InputRelocation
    next = slice_get s.relocations (i + 1)

    by_row : l.machine ≡ machine.X86_64 → (j n : ℕ) → IsAt rows_x86_64 j n → r.number ≡ n → (n == abi.r_x86_64_pc32) ≡ false → ⊥
    by_row x86 j n at number other =
        let choice : choice_by l s r next (Some k) ≡ Ok None = subst (λ (o : Option ℕ). choice_by l s r next o ≡ Ok None) named (own_choice l s i r d own x86) in
        let none = asked_x86_64 l s r next k choice (ap (λ (x : ℕ). x == abi.r_x86_64_pc32) number ∙ other) (subst (λ (o : Option ℕ). names_merged l o ≡ false) named plain) in
        row_stands (question_of l s r k next) j n at (record { number = number; on = on; code = code_bit s.flags g.code; plain = direct; own = free; room = room }) none

    by_word : l.machine ≡ machine.AArch64 → (j n : ℕ) → IsAt rows_aarch64 j n → r.number ≡ n → ⊥
    by_word aarch64 j n at number =
        let q = question_around l s i r k in
        let same : relocation_of q ≡ nameless r = relocation_around l s i r k listed in
        let offset : (relocation_of q).offset ≡ r.offset = ap (λ (x : RelocationInfo). x.offset) same in
        let here : choice l s i ≡ choice_on l.machine l s i r = rw listed refl in
        let none : chosen_row_aarch64 q ≡ Ok None = subst (λ (m : Machine). chosen_row_of m q ≡ Ok None) aarch64 (sym (around_choice l s i r k aarch64 listed named plain) ∙ here ∙ own.choice) in
        word_stands q j n at (record { number = ap (λ (x : RelocationInfo). x.number) same ∙ number; on = on; code = code_bit s.flags g.code; plain = direct; own = free; room = omega (arith, room, offset) }) none

    by_machine : (m : Machine) → l.machine ≡ m → IsStubType m r.number → ⊥
    by_machine machine.X86_64 e (inl number) = by_row e 18 abi.r_x86_64_plt32 stub_distance number refl
    by_machine machine.X86_64 e (inr number) = by_row e 19 abi.r_x86_64_pltoff64 stub_offset number refl
    by_machine machine.AArch64 e (inl number) = by_word e 0 abi.r_aarch64_plt32 stub_word number
    by_machine machine.AArch64 e (inr (inl number)) = by_word e 4 abi.r_aarch64_jump26 jump_word number
    by_machine machine.AArch64 e (inr (inr number)) = by_word e 6 abi.r_aarch64_call26 call_word number
