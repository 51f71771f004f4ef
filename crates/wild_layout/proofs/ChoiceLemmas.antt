-- What the row of a rewrite says of the relocation that it stands at, and which relocations have none.
--   IsChosen l s r next row   the row of x86-64 stands at relocation r, with its whole pattern in the section
--   choice_row                a row that is chosen is that
--   IsChosenAArch64 l s i r row   the row of AArch64 stands at relocation i, with its whole word in the section
--   choice_row_aarch64        a row that is chosen is that
--   choice_is                 what is chosen of a relocation, on x86-64
--   IsSequence l s j row      relocation j's row writes a whole sequence, with the relocation behind it
--   partner_is_taken          a relocation that is taken along is behind such a one
--   loads k                   a loader may fill a field of that kind
--   no_row, no_partner        a relocation of such a kind has no row, and is taken along by none
use Rattle.std.proofs.Common.{◌≡◌, ℕ, zero, suc, ◌+◌, ◌-◌, ◌≤◌, ◌<◌, ◌⊎◌, inl, inr, Bool, true, false, List, [], ◌∷◌, length, get_or, refl, sym, ap, ◌∙◌, arith, subst}
use Rattle.std.specs.Prelude.{Option, Some, None, is_some, Result, Ok, Err, ◌||◌, ◌==◌, not, if◌then◌else◌, cond, Contains, nat_le, slice_get}
use Rattle.std.specs.List.{list_all, filter}
use Rattle.std.proofs.lemmas.Bool.{cases_Bool, eqb-true, leb-true, or_cases, and_parts}
use Rattle.wild_words.specs.Words.{place}
use Rattle.wild_words.proofs.Basics.{not_both, implied, or_other, listed_passes}
use Rattle.wild_records.specs.Abi.Relocation as abi
use Rattle.wild_reloc.specs.TableX86_64.{x86_64_row}
use Rattle.wild_reloc.specs.TableAArch64.{static_row, thread_row, aarch64_row}
use Rattle.wild_reloc.specs.declared.info.RelocationKind.{RelocationKind}
use Rattle.wild_reloc.specs.declared.info.RelocationKind.TheVariants as kinds
use Rattle.wild_reloc.specs.declared.info.RelocationKindInfo.{RelocationKindInfo}
use Rattle.wild_types.specs.declared.kind.Machine.{Machine}
use Rattle.wild_types.specs.declared.kind.Machine.TheVariants as machine
use Rattle.wild_types.specs.declared.input.InputRelocation.{InputRelocation}
use Rattle.wild_types.specs.Item.{Item}
use Rattle.wild_types.specs.declared.layout.Layout.{Layout}
use Rattle.wild_types.specs.Rows.{row_of}
use Rattle.wild_relax.specs.declared.reference.RelocationInfo.{RelocationInfo}
use Rattle.wild_relax.specs.declared.reference.UnknownSequence.{UnknownSequence}
use Rattle.wild_relax.specs.declared.pattern.GeneralForm.{GeneralForm}
use Rattle.wild_relax.specs.declared.pattern.GeneralForm.TheVariants as general
use Rattle.wild_relax.specs.declared.row.Row.{Row}
use Rattle.wild_relax.specs.declared.row.Partner.{Partner}
use Rattle.wild_relax.specs.Question.{Question, entry_at, relocation_of}
use Rattle.wild_relax.specs.Pattern.{field_of}
use Rattle.wild_relax.specs.FirstRow.{row_or_fault}
use Rattle.wild_relax.specs.RowSequences.{form_by, call_form, is_call_number, is_partner_at, has_its_sequence}
use Rattle.wild_relax.specs.Rows.{rows_x86_64, applies, unknown_sequence, first_row_x86_64, chosen_row_x86_64}
use Rattle.wild_relax.specs.RowSequences as rows
use Rattle.wild_relax.specs.declared.row.Written.TheVariants as written
use Rattle.wild_relax.specs.RewriteX86_64.{rewrite_of, info_by}
use Rattle.wild_relax.specs.LinkedPattern.{pattern_of, pattern_size, keeps_bytes, fits_in, template_of}
use Rattle.wild_relax.specs.RowsAArch64.{rows_aarch64, has_its_words, first_row_aarch64, chosen_row_aarch64}
use Rattle.wild_relax.specs.Relaxation.{chosen_row_of}
use Rattle.wild_layout.specs.Merged.{names_merged}
use Rattle.wild_relax.specs.SequenceAArch64.{words_before}
use Rattle.wild_relax.proofs.TemplateLemmas as template-lemmas
use Rattle.wild_relax.proofs.SectionLemmas.{chosen_at, changing_fits}
use Rattle.wild_relax.proofs.RoomLemmas.{applied, partner_asked, standing_first, standing_first_aarch64, chosen_is}
use Rattle.wild_relax.proofs.TogetherLemmas.{chosen_stand}
use Rattle.wild_layout.specs.Choice.{info_of, nameless, question_of, choice_by, choice_of, info_at, infos_from, first_of, question_around, choice_around_by, choice_around, choice_on, choice_at, choice, takes_next, is_partner, is_thread_type, choice_merged}

-- ---- the row that is chosen

-- the row stands at the relocation, before the one behind it; the type of relocations that have no row is another
pub record IsChosen (l : Layout) (s : Item) (r : InputRelocation) (next : Option InputRelocation) (row : Row) : Type 0 where
  pub choice : choice_of l s r next ≡ Ok (Some row)
  pub machine : l.machine ≡ machine.X86_64
  pub symbol : ℕ
  pub named : r.symbol ≡ Some symbol
  pub plain : names_merged l r.symbol ≡ false
  pub other : (r.number == abi.r_x86_64_pc32) ≡ false
  pub chosen : chosen_row_x86_64 (question_of l s r symbol next) ≡ Ok (Some row)
  pub number : r.number ≡ row.number
  pub before : field_of (pattern_of row) ≤ r.offset
  pub inside : r.offset - field_of (pattern_of row) + pattern_size row ≤ length s.bytes

-- a symbol of merged strings has no row
nothing_merged : (r : InputRelocation) (row : Row) → choice_merged r ≡ Ok (Some row) → ⊥
nothing_merged r row h = by_type (is_thread_type r.number) (record { number = r.number; written = info_by written.Nothing }) h
  where
    by_type : (b : Bool) (e : UnknownSequence) → (if b then Err e else Ok None) ≡ Ok (Some row) → ⊥
    by_type true e h = cc
    by_type false e h = cc

pub choice_row : (l : Layout) (s : Item) (r : InputRelocation) (next : Option InputRelocation) (row : Row) → l.machine ≡ machine.X86_64 → choice_of l s r next ≡ Ok (Some row) → IsChosen l s r next row
unfolding choice_by
choice_row l s r next row x86 h = by_symbol l s r next row r.symbol x86 h refl h
  where
    by_number : (l : Layout) (s : Item) (r : InputRelocation) (next : Option InputRelocation) (row : Row) (i : ℕ) (b m : Bool) → l.machine ≡ machine.X86_64 → choice_of l s r next ≡ Ok (Some row) → r.symbol ≡ Some i → (r.number == abi.r_x86_64_pc32) ≡ b → names_merged l (Some i) ≡ m
        → (if b then Ok None else if m then choice_merged r else chosen_row_x86_64 (question_of l s r i next)) ≡ Ok (Some row) → IsChosen l s r next row
    by_number l s r next row i true m x86 all named is plain e = cc
    by_number l s r next row i false true x86 all named is plain e = absurd (nothing_merged r row e)
    by_number l s r next row i false false x86 all named is plain e =
        let t = chosen_is (question_of l s r i next) row e in
        let at = chosen_at (question_of l s r i next) row e in
        record {
          choice = all;
          machine = x86;
          symbol = i;
          named = named;
          plain = ap (names_merged l) named ∙ plain;
          other = is;
          chosen = e;
          number = (applied (question_of l s r i next) row t.here).number;
          before = at.before;
          inside = at.inside;
        }

    by_symbol : (l : Layout) (s : Item) (r : InputRelocation) (next : Option InputRelocation) (row : Row) (o : Option ℕ) → l.machine ≡ machine.X86_64 → choice_of l s r next ≡ Ok (Some row) → r.symbol ≡ o → choice_by l s r next o ≡ Ok (Some row) → IsChosen l s r next row
    by_symbol l s r next row None x86 all named e = cc
    by_symbol l s r next row (Some i) x86 all named e = by_number l s r next row i (r.number == abi.r_x86_64_pc32) (names_merged l (Some i)) x86 all named refl refl e

-- on x86-64 it is the choice of the relocation and the one behind it
pub choice_is : (l : Layout) (s : Item) (i : ℕ) (r : InputRelocation) → l.machine ≡ machine.X86_64 → slice_get s.relocations i ≡ Some r → choice l s i ≡ choice_of l s r (slice_get s.relocations (i + 1))
choice_is l s i r x86 listed = rw (listed, x86) refl

-- ---- the row of AArch64

pub record IsChosenAArch64 (l : Layout) (s : Item) (i : ℕ) (r : InputRelocation) (row : Row) : Type 0 where
  pub machine : l.machine ≡ machine.AArch64
  pub symbol : ℕ
  pub named : r.symbol ≡ Some symbol
  pub plain : names_merged l r.symbol ≡ false
  pub chosen : chosen_row_aarch64 (question_around l s i r symbol) ≡ Ok (Some row)
  pub listed : Contains rows_aarch64 row
  pub here : applies (question_around l s i r symbol) row ≡ true
  pub number : r.number ≡ row.number
  pub begins : field_of (pattern_of row) ≡ 0
  pub inside : r.offset + pattern_size row ≤ length s.bytes
  pub fits : keeps_bytes row ≡ false → (pattern_size row ≡ 4) × (fits_in row ≡ true)

few_before : (n : ℕ) → words_before n ≤ 3
few_before n = by (n == abi.r_aarch64_tlsdesc_ld64_lo12 || n == abi.r_aarch64_tlsie_ld64_gottprel_lo12_nc || n == abi.r_aarch64_add_abs_lo12_nc) (n == abi.r_aarch64_tlsdesc_add_lo12) (n == abi.r_aarch64_tlsdesc_call)
  where
    by : (a b c : Bool) → (if a then 1 else if b then 2 else if c then 3 else 0) ≤ 3
    by true b c = omega arith
    by false true c = omega arith
    by false false true = omega arith
    by false false false = omega arith

back_and_forth : (i w : ℕ) → i - w + (i - (i - w)) ≡ i
back_and_forth i w = omega arith

not_far : (i w : ℕ) → w ≤ 3 → i - (i - w) ≤ 3
not_far i w few = omega (arith, few)

info_there : (rs : List InputRelocation) (i k : ℕ) (r : InputRelocation) → i ≡ k → slice_get rs k ≡ Some r → info_at rs i ≡ nameless r
info_there rs i k r e h = let there : slice_get rs i ≡ Some r = subst (λ (n : ℕ). slice_get rs n ≡ Some r) (sym e) h in rw there refl

among : (rs : List InputRelocation) (first d i : ℕ) (r : InputRelocation) → first + d ≡ i → d ≤ 3 → slice_get rs i ≡ Some r → entry_at (infos_from rs first) d ≡ nameless r
among rs first zero i r e few h = info_there rs first i r (omega (arith, e)) h
among rs first (suc zero) i r e few h = info_there rs (first + 1) i r (omega (arith, e)) h
among rs first (suc (suc zero)) i r e few h = info_there rs (first + 2) i r (omega (arith, e)) h
among rs first (suc (suc (suc zero))) i r e few h = info_there rs (first + 3) i r (omega (arith, e)) h
among rs first (suc (suc (suc (suc d)))) i r e few h = absurd (omega (arith, few))

-- the rows are asked of the relocation itself
pub relocation_around : (l : Layout) (s : Item) (i : ℕ) (r : InputRelocation) (symbol : ℕ) → slice_get s.relocations i ≡ Some r → relocation_of (question_around l s i r symbol) ≡ nameless r
relocation_around l s i r symbol listed = among s.relocations (first_of r i) (i - first_of r i) i r (back_and_forth i (words_before r.number)) (not_far i (words_before r.number) (few_before r.number)) listed

pub choice_row_aarch64 : (l : Layout) (s : Item) (i : ℕ) (r : InputRelocation) (row : Row) → l.machine ≡ machine.AArch64 → slice_get s.relocations i ≡ Some r → choice_around l s i r ≡ Ok (Some row) → IsChosenAArch64 l s i r row
unfolding choice_around_by
choice_row_aarch64 l s i r row on at h = by_symbol r.symbol refl h
  where
    by_merged : (symbol : ℕ) (b : Bool) → r.symbol ≡ Some symbol → names_merged l (Some symbol) ≡ b → (if b then Ok None else chosen_row_of machine.AArch64 (question_around l s i r symbol)) ≡ Ok (Some row) → IsChosenAArch64 l s i r row
    by_merged symbol true named plain e = cc
    by_merged symbol false named plain e =
        let q = question_around l s i r symbol in
        let t = chosen_stand q row e in
        let same = relocation_around l s i r symbol at in
        let inside = t.inside in
        let offset : (relocation_of q).offset ≡ r.offset = ap (λ (x : RelocationInfo). x.offset) same in
        record {
          machine = on;
          symbol = symbol;
          named = named;
          plain = ap (names_merged l) named ∙ plain;
          chosen = e;
          listed = t.listed;
          here = (and_parts _ _ t.here).0;
          number = sym (ap (λ (x : RelocationInfo). x.number) same) ∙ t.number;
          begins = t.begins;
          inside = omega (arith, inside, offset);
          fits = t.fits;
        }

    by_symbol : (o : Option ℕ) → r.symbol ≡ o → choice_around_by l s i r o ≡ Ok (Some row) → IsChosenAArch64 l s i r row
    by_symbol None named e = cc
    by_symbol (Some symbol) named e = by_merged symbol (names_merged l (Some symbol)) named refl e

-- what each row of the table has
pub is_listed : (l : Layout) (s : Item) (r : InputRelocation) (next : Option InputRelocation) (row : Row) → IsChosen l s r next row → Contains rows_x86_64 row
is_listed l s r next row c = (chosen_is (question_of l s r c.symbol next) row c.chosen).listed

pub chosen_listed : (l : Layout) (s : Item) (r : InputRelocation) (next : Option InputRelocation) (row : Row) → IsChosen l s r next row → (p : Row → Bool) → list_all p rows_x86_64 ≡ true → p row ≡ true
chosen_listed l s r next row c p all = listed_passes p rows_x86_64 row all (is_listed l s r next row c)

-- a row that passes a test is of those that do
pub kept_listed : {X : Type 0} (t : X → Bool) (xs : List X) (x : X) → Contains xs x → t x ≡ true → Contains (filter t xs) x
kept_listed t xs x c h = by_place t xs x c.0 c.1 c.2 h
  where
    here : {X : Type 0} (t : X → Bool) (y : X) (ys : List X) (x : X) (b : Bool) → t y ≡ b → y ≡ x → t x ≡ true → Contains (cond b (y ∷ ys) ys) x
    here t y ys x true e same h = (0, omega arith, same)
    here t y ys x false e same h = (let f : t x ≡ false = subst (λ z. t z ≡ false) same e in cc)

    behind : {X : Type 0} (y : X) (ys : List X) (x : X) (b : Bool) → Contains ys x → Contains (cond b (y ∷ ys) ys) x
    behind y ys x true c = (suc c.0, (let low = c.1 in omega (arith, low)), c.2)
    behind y ys x false c = c

    by_place : {X : Type 0} (t : X → Bool) (xs : List X) (x : X) (k : ℕ) → k < length xs → get_or xs k x ≡ x → t x ≡ true → Contains (filter t xs) x
    by_place t [] x k low is h = absurd (omega (arith, low))
    by_place t (y ∷ ys) x zero low is h = here t y (filter t ys) x (t y) refl is h
    by_place t (y ∷ ys) x (suc k) low is h = behind y (filter t ys) x (t y) (by_place t ys x k (omega (arith, low)) is h)

pub of_one : {X : Type 0} (a x : X) → Contains (a ∷ []) x → x ≡ a
of_one a x (zero, low, is) = sym is
of_one a x (suc k, low, is) = absurd (omega (arith, low))

pub of_two : {X : Type 0} (a b x : X) → Contains (a ∷ b ∷ []) x → (x ≡ a) ⊎ (x ≡ b)
of_two a b x (zero, low, is) = inl (sym is)
of_two a b x (suc zero, low, is) = inr (sym is)
of_two a b x (suc (suc k), low, is) = absurd (omega (arith, low))

-- ---- the bytes that a row writes

-- a row that changes bytes has some, with the bytes that it replaces and its field among them
abbrev has_bytes : Row → Bool
has_bytes row = keeps_bytes row || nat_le 1 (pattern_size row)

each_has_bytes : list_all has_bytes rows_x86_64 ≡ true
unfolding rows_x86_64
each_has_bytes = refl

pub record LiesInItsPattern (row : Row) : Type 0 where
  pub some : 1 ≤ pattern_size row
  pub fits : fits_in row ≡ true

pub chosen_lies : (l : Layout) (s : Item) (r : InputRelocation) (next : Option InputRelocation) (row : Row) → IsChosen l s r next row → keeps_bytes row ≡ false → LiesInItsPattern row
chosen_lies l s r next row c k = record {
  some = leb-true 1 (pattern_size row) (or_other (keeps_bytes row) (nat_le 1 (pattern_size row)) (chosen_listed l s r next row c has_bytes each_has_bytes) k);
  fits = changing_fits row (record { listed = is_listed l s r next row c; changes = k });
}

-- on AArch64 a word
pub chosen_lies_aarch64 : (l : Layout) (s : Item) (i : ℕ) (r : InputRelocation) (row : Row) → IsChosenAArch64 l s i r row → keeps_bytes row ≡ false → LiesInItsPattern row
chosen_lies_aarch64 l s i r row c k = (let long = (c.fits k).0 in record { some = omega (arith, long); fits = (c.fits k).1 })

-- what is written in place of a pattern has its length
pub length-template : (row : Row) (v : ℕ) (old : List ℕ) → LiesInItsPattern row → length old ≡ pattern_size row → length (template_of row v old) ≡ pattern_size row
length-template row v old lies long = template-lemmas.length-template row v old lies.fits long

-- ---- sequences

-- relocation j's row writes a whole sequence
pub record IsSequence (l : Layout) (s : Item) (j : ℕ) (row : Row) : Type 0 where
  pub machine : l.machine ≡ machine.X86_64
  pub relocation : InputRelocation
  pub listed : slice_get s.relocations j ≡ Some relocation
  pub is : choice_of l s relocation (slice_get s.relocations (j + 1)) ≡ Ok (Some row)
  pub takes : takes_next (Ok (Some row)) ≡ true

-- no row of AArch64 does
each_is_alone : list_all (λ (row : Row). not (takes_next (Ok (Some row)))) rows_aarch64 ≡ true
unfolding rows_aarch64
each_is_alone = refl

pub partner_is_taken : (l : Layout) (s : Item) (i : ℕ) → is_partner l s i ≡ true → (j : ℕ) × (i ≡ j + 1) × (row : Row) × IsSequence l s j row
partner_is_taken l s zero h = cc
partner_is_taken l s (suc j) h = let t = by_relocation l s j (slice_get s.relocations j) refl h in (j, omega arith, t.0, t.1)
  where
    by_choice : (l : Layout) (s : Item) (j : ℕ) (r : InputRelocation) (c : Result (Option Row) UnknownSequence) → l.machine ≡ machine.X86_64 → slice_get s.relocations j ≡ Some r → choice_of l s r (slice_get s.relocations (j + 1)) ≡ c → takes_next c ≡ true → (row : Row) × IsSequence l s j row
    by_choice l s j r (Ok None) x86 e is h = cc
    by_choice l s j r (Ok (Some row)) x86 e is h = (row, record { machine = x86; relocation = r; listed = e; is = is; takes = h })
    by_choice l s j r (Err f) x86 e is h = cc

    by_word : (l : Layout) (s : Item) (j : ℕ) (r : InputRelocation) (c : Result (Option Row) UnknownSequence) → l.machine ≡ machine.AArch64 → slice_get s.relocations j ≡ Some r → choice_around l s j r ≡ c → takes_next c ≡ true → ⊥
    by_word l s j r (Ok None) on e is h = cc
    by_word l s j r (Ok (Some row)) on e is h = not_both _ (listed_passes (λ (x : Row). not (takes_next (Ok (Some x)))) rows_aarch64 row each_is_alone (choice_row_aarch64 l s j r row on e is).listed) h
    by_word l s j r (Err f) on e is h = cc

    by_machine : (l : Layout) (s : Item) (j : ℕ) (r : InputRelocation) (m : Machine) → l.machine ≡ m → slice_get s.relocations j ≡ Some r → takes_next (choice_on m l s j r) ≡ true → (row : Row) × IsSequence l s j row
    by_machine l s j r machine.X86_64 on e h = by_choice l s j r (choice_of l s r (slice_get s.relocations (j + 1))) on e refl h
    by_machine l s j r machine.AArch64 on e h = absurd (by_word l s j r (choice_around l s j r) on e refl h)

    by_relocation : (l : Layout) (s : Item) (j : ℕ) (o : Option InputRelocation) → slice_get s.relocations j ≡ o → takes_next (choice_at l s j o) ≡ true → (row : Row) × IsSequence l s j row
    by_relocation l s j None e h = cc
    by_relocation l s j (Some r) e h = by_machine l s j r l.machine refl e h

-- so none is taken along there
pub no_partner_aarch64 : (l : Layout) (s : Item) (i : ℕ) → l.machine ≡ machine.AArch64 → is_partner l s i ≡ false
no_partner_aarch64 l s i on =
    elim (cases_Bool (is_partner l s i)) [
      | inr f ↦ f
      | inl t ↦ (let both : machine.AArch64 ≡ machine.X86_64 = sym on ∙ (partner_is_taken l s i t).3.machine in cc)
    ]

-- such a row asks for its call
abbrev asks_for_its_call : Row → Bool
asks_for_its_call row = not (takes_next (Ok (Some row))) || is_some row.partner

each_asks : list_all asks_for_its_call rows_x86_64 ≡ true
unfolding rows_x86_64
each_asks = refl

call_number : (form : GeneralForm) (place : ℕ) (next : RelocationInfo) → rows.is_partner form place next ≡ true → is_call_number form next.number ≡ true
unfolding rows.is_partner
call_number form place next h = (and_parts _ _ (and_parts _ _ h).0).1

taken_call : (o : Option Partner) (r : RelocationInfo) (next : RelocationInfo) → is_some o ≡ true → is_partner_at r o (Some next) ≡ true → is_call_number (form_by o) next.number ≡ true
taken_call None r next is h = cc
taken_call (Some p) r next is h = call_number p.form (r.offset + p.distance) next (and_parts _ _ h).1

-- the type of a relocation that is taken along is that of a call
pub partner_number : (l : Layout) (s : Item) (r : InputRelocation) (next : InputRelocation) (row : Row) → IsChosen l s r (Some next) row → takes_next (Ok (Some row)) ≡ true → is_call_number (call_form row) next.number ≡ true
partner_number l s r next row c takes =
    let q = question_of l s r c.symbol (Some next) in
    let t = chosen_is q row c.chosen in
    taken_call row.partner (info_of l r) (info_of l next) (implied _ _ (listed_passes asks_for_its_call rows_x86_64 row each_asks t.listed) takes) (partner_asked q row t.whole)

-- ---- kinds of fields that a loader may fill

abbrev pub loads : RelocationKind → Bool
loads kinds.Absolute = true
loads kinds.SymbolSize = true
loads other = false

abbrev loads_at : Option RelocationKindInfo → Bool
loads_at None = false
loads_at (Some row) = loads row.kind

-- no row stands at such a type
each_stays : list_all (λ (row : Row). not (loads_at (x86_64_row row.number))) rows_x86_64 ≡ true
unfolding x86_64_row rows_x86_64
each_stays = refl

-- no call is one
stays_at : (n k : ℕ) → (n == k) ≡ true → loads_at (x86_64_row k) ≡ false → loads_at (x86_64_row n) ≡ false
stays_at n k e h = subst (λ (x : ℕ). loads_at (x86_64_row x) ≡ false) (sym (eqb-true n k e)) h

call_stays : (f : GeneralForm) (n : ℕ) → is_call_number f n ≡ true → loads_at (x86_64_row n) ≡ false
unfolding x86_64_row
call_stays general.Regular n h =
    elim (or_cases (n == abi.r_x86_64_pc32) (n == abi.r_x86_64_plt32) h) [
      | inl e ↦ stays_at n abi.r_x86_64_pc32 e refl
      | inr e ↦ stays_at n abi.r_x86_64_plt32 e refl
    ]
call_stays general.NoPlt n h =
    elim (or_cases (n == abi.r_x86_64_gotpcrel || n == abi.r_x86_64_gotpcrelx) (n == abi.r_x86_64_rex_gotpcrelx) h) [
      | inl b ↦
          elim (or_cases (n == abi.r_x86_64_gotpcrel) (n == abi.r_x86_64_gotpcrelx) b) [
            | inl e ↦ stays_at n abi.r_x86_64_gotpcrel e refl
            | inr e ↦ stays_at n abi.r_x86_64_gotpcrelx e refl
          ]
      | inr e ↦ stays_at n abi.r_x86_64_rex_gotpcrelx e refl
    ]
call_stays general.Large n h = stays_at n abi.r_x86_64_pltoff64 h refl

-- the relocation's kind, by the table
loads_here : (m : Machine) (n : ℕ) (row : RelocationKindInfo) → m ≡ machine.X86_64 → row_of m n ≡ Some row → loads row.kind ≡ true → loads_at (x86_64_row n) ≡ true
unfolding row_of
loads_here machine.AArch64 n row is known h = cc
loads_here machine.X86_64 n row is known h = subst (λ (o : Option RelocationKindInfo). loads_at o ≡ true) (sym known) h

loads_there : (m : Machine) (n : ℕ) (row : RelocationKindInfo) → m ≡ machine.AArch64 → row_of m n ≡ Some row → loads row.kind ≡ true → loads_at (aarch64_row n) ≡ true
unfolding row_of
loads_there machine.X86_64 n row is known h = cc
loads_there machine.AArch64 n row is known h = subst (λ (o : Option RelocationKindInfo). loads_at o ≡ true) (sym known) h

none_stands : (q : Question) → loads_at (x86_64_row (relocation_of q).number) ≡ true → chosen_row_x86_64 q ≡ Ok None
unfolding chosen_row_x86_64
none_stands q h = by_standing q (first_row_x86_64 q) refl h
  where
    by_standing : (q : Question) (o : Option Row) → first_row_x86_64 q ≡ o → loads_at (x86_64_row (relocation_of q).number) ≡ true → row_or_fault (has_its_sequence q) (unknown_sequence q) o ≡ Ok None
    by_standing q None is h = refl
    by_standing q (Some row) is h =
        let first = standing_first q row is in
        let stays = listed_passes (λ (x : Row). not (loads_at (x86_64_row x.number))) rows_x86_64 row each_stays first.listed in
        absurd (not_both _ stays (subst (λ (n : ℕ). loads_at (x86_64_row n) ≡ true) (applied q row first.here).number h))

-- nor on AArch64
each_word_stays : list_all (λ (row : Row). not (loads_at (aarch64_row row.number))) rows_aarch64 ≡ true
unfolding static_row thread_row rows_aarch64
each_word_stays = refl

-- where none of the table's rows has the relocation's type, none is chosen
pub none_chosen : (q : Question) → ((row : Row) → Contains rows_aarch64 row → (relocation_of q).number ≡ row.number → ⊥) → chosen_row_aarch64 q ≡ Ok None
unfolding chosen_row_aarch64
none_chosen q none = by_standing (first_row_aarch64 q) refl
  where
    by_standing : (o : Option Row) → first_row_aarch64 q ≡ o → row_or_fault (has_its_words q) (unknown_sequence q) o ≡ Ok None
    by_standing None is = refl
    by_standing (Some row) is = (let first = standing_first_aarch64 q row is in absurd (none row first.listed (applied q row (and_parts _ _ first.here).0).number))

none_around : (q : Question) → loads_at (aarch64_row (relocation_of q).number) ≡ true → chosen_row_aarch64 q ≡ Ok None
none_around q h = none_chosen q (λ row listed number. not_both _ (listed_passes (λ (x : Row). not (loads_at (aarch64_row x.number))) rows_aarch64 row each_word_stays listed) (subst (λ (n : ℕ). loads_at (aarch64_row n) ≡ true) number h))

pub none_by : (b : Bool) (c : Result (Option Row) UnknownSequence) → c ≡ Ok None → (if b then Ok None else c) ≡ Ok None
none_by true c h = refl
none_by false c h = h

none_of_two : (b m : Bool) (c d : Result (Option Row) UnknownSequence) → c ≡ Ok None → d ≡ Ok None → (if b then Ok None else if m then c else d) ≡ Ok None
none_of_two true m c d h k = refl
none_of_two false true c d h k = h
none_of_two false false c d h k = k

-- nor a reason to refuse it, but of a type of thread-local storage
pub merged_none : (r : InputRelocation) → is_thread_type r.number ≡ false → choice_merged r ≡ Ok None
merged_none r h = rw h refl

no_thread : (n k : ℕ) → loads_at (x86_64_row n) ≡ true → loads_at (x86_64_row k) ≡ false → (n == k) ≡ false
no_thread n k loads none =
    elim (cases_Bool (n == k)) [
      | inr f ↦ f
      | inl t ↦ (let same : n ≡ k = eqb-true n k t in let both : true ≡ false = sym loads ∙ ap (λ (x : ℕ). loads_at (x86_64_row x)) same ∙ none in cc)
    ]

loads_no_thread : (n : ℕ) → loads_at (x86_64_row n) ≡ true → is_thread_type n ≡ false
unfolding x86_64_row
loads_no_thread n loads =
    let a = no_thread n abi.r_x86_64_tlsgd loads refl in
    let b = no_thread n abi.r_x86_64_tlsld loads refl in
    let c = no_thread n abi.r_x86_64_gotpc32_tlsdesc loads refl in
    let d = no_thread n abi.r_x86_64_code_4_gotpc32_tlsdesc loads refl in
    let e = no_thread n abi.r_x86_64_tlsdesc_call loads refl in
    rw (a, b, c, d, e) refl

pub no_row : (l : Layout) (s : Item) (i : ℕ) (r : InputRelocation) (row : RelocationKindInfo) → slice_get s.relocations i ≡ Some r → row_of l.machine r.number ≡ Some row → loads row.kind ≡ true → choice_on l.machine l s i r ≡ Ok None
unfolding choice_by choice_around_by
no_row l s i r row listed known h = by_machine l.machine known
  where
    by_x86_64 : (next : Option InputRelocation) (o : Option ℕ) → loads_at (x86_64_row r.number) ≡ true → choice_by l s r next o ≡ Ok None
    by_x86_64 next None loads = refl
    by_x86_64 next (Some n) loads =
        none_of_two (r.number == abi.r_x86_64_pc32) (names_merged l (Some n)) (choice_merged r) (chosen_row_x86_64 (question_of l s r n next)) (merged_none r (loads_no_thread r.number loads)) (none_stands (question_of l s r n next) loads)

    by_aarch64 : (o : Option ℕ) → loads_at (aarch64_row r.number) ≡ true → choice_around_by l s i r o ≡ Ok None
    by_aarch64 None loads = refl
    by_aarch64 (Some n) loads =
        none_by (names_merged l (Some n)) (chosen_row_of machine.AArch64 (question_around l s i r n)) (none_around (question_around l s i r n) (subst (λ (x : RelocationInfo). loads_at (aarch64_row x.number) ≡ true) (sym (relocation_around l s i r n listed)) loads))

    by_machine : (m : Machine) → row_of m r.number ≡ Some row → choice_on m l s i r ≡ Ok None
    by_machine machine.X86_64 is = by_x86_64 (slice_get s.relocations (i + 1)) r.symbol (loads_here machine.X86_64 r.number row refl is h)
    by_machine machine.AArch64 is = by_aarch64 r.symbol (loads_there machine.AArch64 r.number row refl is h)

pub no_partner : (l : Layout) (s : Item) (i : ℕ) (r : InputRelocation) (row : RelocationKindInfo) → slice_get s.relocations i ≡ Some r → row_of l.machine r.number ≡ Some row → loads row.kind ≡ true → is_partner l s i ≡ false
no_partner l s i r row listed known h =
    elim (cases_Bool (is_partner l s i)) [
      | inr f ↦ f
      | inl t ↦ (let p = partner_is_taken l s i t in absurd (taken l s p.0 p.2 r row p.3 (subst (λ (k : ℕ). slice_get s.relocations k ≡ Some r) p.1 listed) known h))
    ]
  where
    taken : (l : Layout) (s : Item) (j : ℕ) (w : Row) (r : InputRelocation) (row : RelocationKindInfo) → IsSequence l s j w → slice_get s.relocations (j + 1) ≡ Some r → row_of l.machine r.number ≡ Some row → loads row.kind ≡ true → ⊥
    taken l s j w r row q listed known h =
        let is = subst (λ (o : Option InputRelocation). choice_of l s q.relocation o ≡ Ok (Some w)) listed q.is in
        let c = choice_row l s q.relocation (Some r) w q.machine is in
        let stays = call_stays (call_form w) r.number (partner_number l s q.relocation r w c q.takes) in
        let goes = loads_here l.machine r.number row c.machine known h in
        cc
