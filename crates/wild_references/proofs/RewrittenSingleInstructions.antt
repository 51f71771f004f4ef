-- An instruction that is rewritten by itself is free of sequences.
use Rattle.wild_references.proofs.Common.{◌≡◌, ℕ, zero, suc, ◌+◌, ◌<◌, ◌≤◌, ◌⊎◌, inl, inr, Bool, true, false, List, [], ◌∷◌, get_or, refl, sym, ◌∙◌, arith, subst, ◌||◌, not, nat_lt, Some, Contains, slice_get, list_all, cases_Bool, ltb-true, cases_eq, slice_get_within, implied, Machine, InputRelocation, Layout, interposable, ifunc, non_interposable, is_static_executable, flags_at, Formula, x86_64_formula, Row, field_of, rows_x86_64, is_mandatory, is_skip, rewrite_of, pattern_of, pattern_size, keeps_bytes, question_of, is_partner, template_start, chosen_listed, IsDecided, Item, formula_of, form_width, HasFlag, Instruction, instructions_of, IsSequence, IsGetterCall, code_bit, executable_is, flag_is, WindowsHaveNoOtherField, applied}
use Rattle.wild_words.proofs.Basics.{or_by, or_first}
use Rattle.wild_records.specs.Abi.Relocation as abi
use Rattle.wild_types.specs.declared.kind.Machine.TheVariants as machine
use Rattle.wild_relax.specs.declared.pattern.GeneralForm.TheVariants as general
use Rattle.wild_relax.specs.declared.pattern.LocalForm.TheVariants as local
use Rattle.wild_relax.specs.declared.pattern.Pattern.TheVariants as pattern
use Rattle.wild_meaning.specs.Sequence.{Partner as Call}
use Rattle.wild_meaning.proofs.PairLemmas.{as_its_call}
use Rattle.wild_references.proofs.RewrittenPlaces.{IsPlacedRow, mandatory_static}
use Rattle.wild_references.proofs.RewrittenSingles.{has_number}
use Rattle.wild_references.proofs.TableRows.{general_there, general_slot_there, local_there}
use Rattle.wild_references.proofs.RewrittenCalls.{general_slot, local_slot, direct_numbers, only_number, calls_of, cells_match_pattern, general_backed, local_backed, IsAskedFor, local_applies, own_applies, open_applies}
use Rattle.wild_references.proofs.KeptModes.{other_flag}
use Rattle.wild_references.proofs.RewrittenFree.{is_first, takes_it, each_takes, takes_call}

-- ---- a row that stands asks for the sequence's, too

is_on : (l : Layout) (s : Item) (i : ℕ) (r : InputRelocation) (row : Row) (v : ℕ) → IsPlacedRow l s i r row v → (l.options.relax || is_static_executable l.kind) ≡ true
is_on l s i r row v p =
    let q = question_of l s r p.chosen.symbol (slice_get s.relocations (i + 1)) in
    or_by l.options.relax (is_mandatory row.duty q) (is_static_executable l.kind) (applied q row p.stands.here).on (λ e. mandatory_static row q p.changing e)

-- ---- the sequence is rewritten

abbrev slot_numbers : List ℕ
slot_numbers = abi.r_x86_64_gotpcrel ∷ abi.r_x86_64_gotpcrelx ∷ abi.r_x86_64_rex_gotpcrelx ∷ []

-- the call is taken along, and its relocation's type is that of a slot
record HoldsWithSequence (l : Layout) (s : Item) (j : ℕ) (first second : InputRelocation) : Type 0 where
  taken : is_partner l s (j + 1) ≡ true
  number : Contains slot_numbers second.number
  first_type : is_first first.number ≡ true

same_partner : (o : Instruction) (a c : Call) → o.partners ≡ a ∷ [] → o.partners ≡ c ∷ [] → c ≡ a
same_partner o a c e h = (let f : a ∷ [] ≡ c ∷ [] = sym e ∙ h in cc)

first_is : (n a : ℕ) → n ≡ a → is_first a ≡ true → is_first n ≡ true
first_is n a e h = subst (λ (x : ℕ). is_first x ≡ true) (sym e) h

asked_for : (l : Layout) (s : Item) (i : ℕ) (r first second : InputRelocation) (row : Row) (v from : ℕ) (o : Instruction) → IsPlacedRow l s i r row v → (q : IsGetterCall l s first second from o) → IsAskedFor l s q.symbol
asked_for l s i r first second row v from o p q = record { on = is_on l s i r row v p; code = code_bit s.flags q.stands.code; plain = flag_is l q.symbol ifunc false q.plain; program = executable_is l.kind q.executable }

general_taken : (l : Layout) (s : Item) (i : ℕ) (r first second : InputRelocation) (row : Row) (v from : ℕ) → l.machine ≡ machine.X86_64 → IsDecided l s → IsPlacedRow l s i r row v → (q : IsGetterCall l s first second from general_slot) → HoldsWithSequence l s q.has.index first second
general_taken l s i r first second row v from x86 decided p q =
    let number = only_number abi.r_x86_64_tlsgd first.number q.stands.number in
    let stands = cells_match_pattern general_slot.template.cells (pattern.General general.NoPlt) s.bytes first.offset from general_backed (omega arith) q.stands.field q.stands.inside q.stands.stands in
    let asked = asked_for l s i r first second row v from general_slot p q in
    let next = slice_get s.relocations (q.has.index + 1) in
    record {
      taken = elim (cases_Bool (interposable (flags_at l q.symbol))) [
        | inr own ↦ takes_call l s q.has.index q.symbol first _ general_there.0 x86 decided q.has.listed q.named (first_is first.number abi.r_x86_64_tlsgd number refl) general_there.1 general_there.2 (own_applies l s first q.symbol next asked own number stands)
        | inl free ↦
            (let on = q.rewritten number (subst (λ (b : Bool). HasFlag l q.symbol non_interposable b) (not_so _ free) (other_flag l q.symbol ifunc non_interposable false q.plain)) in
            takes_call l s q.has.index q.symbol first _ general_slot_there.0 x86 decided q.has.listed q.named (first_is first.number abi.r_x86_64_tlsgd number refl) general_slot_there.1 general_slot_there.2 (open_applies l s first q.symbol next asked on free number stands))
      ];
      number = subst (λ (c : Call). Contains c.numbers second.number) (same_partner general_slot _ q.partner refl q.calls) q.has.number;
      first_type = first_is first.number abi.r_x86_64_tlsgd number refl;
    }
  where
    not_so : (b : Bool) → not b ≡ true → b ≡ false
    not_so true h = cc
    not_so false h = refl

local_taken : (l : Layout) (s : Item) (i : ℕ) (r first second : InputRelocation) (row : Row) (v from : ℕ) → l.machine ≡ machine.X86_64 → IsDecided l s → IsPlacedRow l s i r row v → (q : IsGetterCall l s first second from local_slot) → HoldsWithSequence l s q.has.index first second
local_taken l s i r first second row v from x86 decided p q =
    let number = only_number abi.r_x86_64_tlsld first.number q.stands.number in
    let stands = cells_match_pattern local_slot.template.cells (pattern.LocalStart local.NoPlt) s.bytes first.offset from local_backed (omega arith) q.stands.field q.stands.inside q.stands.stands in
    let asked = asked_for l s i r first second row v from local_slot p q in
    let next = slice_get s.relocations (q.has.index + 1) in
    record {
      taken = takes_call l s q.has.index q.symbol first _ local_there.0 x86 decided q.has.listed q.named (first_is first.number abi.r_x86_64_tlsld number refl) local_there.1 local_there.2 (local_applies l s first q.symbol next asked number stands);
      number = subst (λ (c : Call). Contains c.numbers second.number) (same_partner local_slot _ q.partner refl q.calls) q.has.number;
      first_type = first_is first.number abi.r_x86_64_tlsld number refl;
    }

-- no row that changes bytes stands at a direct call
abbrev is_no_call : Row → Bool
is_no_call row = keeps_bytes row || not (has_number row.number direct_numbers)

each_no_call : list_all is_no_call rows_x86_64 ≡ true
unfolding rows_x86_64
each_no_call = refl

no_direct : (a b : Bool) → a ≡ false → (a || not b) ≡ true → b ≡ true → ⊥
no_direct true b e h k = cc
no_direct false true e h k = cc
no_direct false false e h k = cc

-- the relocation's type is the row's, so it is no direct call
taken_along : (l : Layout) (s : Item) (i : ℕ) (r first : InputRelocation) (row : Row) (v from : ℕ) (o : Instruction) → l.machine ≡ machine.X86_64 → IsDecided l s → IsPlacedRow l s i r row v → (q : IsGetterCall l s first r from o) → HoldsWithSequence l s q.has.index first r
taken_along l s i r first row v from o x86 decided p q =
    elim (calls_of o (subst (λ (m : Machine). Contains (instructions_of m) o) x86 q.stands.known) q.partner q.calls) [
      | inl e ↦ by_general o e q
      | inr (inl e) ↦ by_local o e q
      | inr (inr direct) ↦ absurd (no_direct (keeps_bytes row) _ p.made.changes (chosen_listed l s r _ row p.chosen is_no_call each_no_call) (subst (λ (n : ℕ). has_number n direct_numbers ≡ true) p.chosen.number (direct r.number q.has.number)))
    ]
  where
    by_general : (x : Instruction) → x ≡ general_slot → (q : IsGetterCall l s first r from x) → HoldsWithSequence l s q.has.index first r
    by_general x e = subst (λ (y : Instruction). (q : IsGetterCall l s first r from y) → HoldsWithSequence l s q.has.index first r) (sym e) (λ q. general_taken l s i r first r row v from x86 decided p q)

    by_local : (x : Instruction) → x ≡ local_slot → (q : IsGetterCall l s first r from x) → HoldsWithSequence l s q.has.index first r
    by_local x e = subst (λ (y : Instruction). (q : IsGetterCall l s first r from y) → HoldsWithSequence l s q.has.index first r) (sym e) (λ q. local_taken l s i r first r row v from x86 decided p q)

-- ---- two relocations at one place

abbrev has_room : Row → Bool
has_room row = nat_lt (field_of (pattern_of row)) (pattern_size row) || keeps_bytes row

each_room : list_all has_room rows_x86_64 ≡ true
unfolding rows_x86_64
each_room = refl

slot_formula : (n k : ℕ) → k < 3 → get_or slot_numbers k n ≡ n → (f : Formula) × (x86_64_formula n ≡ Some f) × (form_width f.form ≡ 4)
unfolding x86_64_formula
slot_formula n zero lt e = subst (λ (x : ℕ). (f : Formula) × (x86_64_formula x ≡ Some f) × (form_width f.form ≡ 4)) e (_, refl, refl)
slot_formula n (suc zero) lt e = subst (λ (x : ℕ). (f : Formula) × (x86_64_formula x ≡ Some f) × (form_width f.form ≡ 4)) e (_, refl, refl)
slot_formula n (suc (suc zero)) lt e = subst (λ (x : ℕ). (f : Formula) × (x86_64_formula x ≡ Some f) × (form_width f.form ≡ 4)) e (_, refl, refl)
slot_formula n (suc (suc (suc k))) lt e = absurd (omega (arith, lt))

not_beside : (at w : ℕ) → w ≡ 4 → (at < at) ⊎ (at + w ≤ at) → ⊥
not_beside at w e (inl h) = omega (arith, h)
not_beside at w e (inr h) = omega (arith, e, h)

formula_there : (m : Machine) (n : ℕ) (f : Formula) → m ≡ machine.X86_64 → x86_64_formula n ≡ Some f → formula_of m n ≡ Some f
formula_there m n f e h = subst (λ (x : Machine). formula_of x n ≡ Some f) (sym e) h

no_call : WindowsHaveNoOtherField → (l : Layout) (s : Item) (i : ℕ) (r first : InputRelocation) (row : Row) (v from : ℕ) (o : Instruction) → l.machine ≡ machine.X86_64 → IsDecided l s → IsPlacedRow l s i r row v → is_skip (rewrite_of row).next ≡ false → IsGetterCall l s first r from o → ⊥
no_call law l s i r first row v from o x86 decided p alone q =
    let j = q.has.index in
    let t = taken_along l s i r first row v from o x86 decided p q in
    elim (cases_eq i (j + 1)) [
      | inl e ↦ (let a : is_partner l s (j + 1) ≡ false = subst (λ (x : ℕ). is_partner l s x ≡ false) e p.alone in (let b : true ≡ false = sym t.taken ∙ a in cc))
      | inr other ↦
          (let d = decided.each (j + 1) (slice_get_within s.relocations (j + 1) r q.has.next) in
          let before = p.stands.before in
          let room = ltb-true (field_of (pattern_of row)) (pattern_size row) (or_first _ (keeps_bytes row) (chosen_listed l s r _ row p.chosen has_room each_room) p.made.changes) in
          let low : template_start row r ≤ r.offset = omega (arith, before) in
          let high : r.offset < template_start row r + pattern_size row = omega (arith, before, room) in
          let f = slot_formula r.number t.number.0 t.number.1 t.number.2 in
          not_beside r.offset (form_width f.0.form) f.2 (law l s decided i (j + 1) r r row v d.0 p.has (record { listed = q.has.next; decided = d.1 }) other (λ e c. not_itself t e) r.offset low high f.0 (formula_there l.machine r.number f.0 x86 f.1)))
    ]
  where
    not_itself : HoldsWithSequence l s q.has.index first r → q.has.index + 1 ≡ i + 1 → ⊥
    not_itself t e =
        let at : q.has.index ≡ i = omega (arith, e) in
        let there : slice_get s.relocations i ≡ Some first = subst (λ (x : ℕ). slice_get s.relocations x ≡ Some first) at q.has.listed in
        let same : first ≡ r = (let z : Some first ≡ Some r = sym there ∙ p.has.listed in cc) in
        let number : is_first row.number ≡ true = subst (λ (x : ℕ). is_first x ≡ true) p.chosen.number (subst (λ (x : InputRelocation). is_first x.number ≡ true) same t.first_type) in
        let skips = implied _ _ (chosen_listed l s r _ row p.chosen takes_it each_takes) number in
        let z : true ≡ false = sym skips ∙ alone in
        cc

pub free : WindowsHaveNoOtherField → (l : Layout) (s : Item) (i : ℕ) (r first : InputRelocation) (rest : List InputRelocation) (row : Row) (v from : ℕ) (o : Instruction) → l.machine ≡ machine.X86_64 → IsDecided l s → IsPlacedRow l s i r row v → is_skip (rewrite_of row).next ≡ false → IsSequence l s first rest from o → Contains rest r → ⊥
free law l s i r first rest row v from o x86 decided p alone q c = no_call law l s i r first row v from o x86 decided p alone (as_its_call l s first r rest from o x86 q c)
