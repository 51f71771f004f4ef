-- A sequence of which one instruction was rewritten, and the call left, is refused; so is one with another offset.
use Rattle.wild_meaning.proofs.Common.{◌≡◌, ℕ, zero, suc, ◌+◌, ◌<◌, ◌≤◌, ◌⊎◌, inl, inr, true, false, List, [], ◌∷◌, refl, sym, ap, ◌∙◌, subst, arith, ◌-◌, ◌%◌, ◌^◌, Option, Some, None, option_map, slice_get, slice_range, number, All-from_recursion, r_x86_64_tlsgd, Formula, formula, StubDistance, SlotDistance, ModulePair, Plain, Signed, x86_64_formula, InputRelocation, has_flag, ifunc, Memory, Holds, Reader, matches_cells, as_value, with_value, SetThreadAddress, Number, meaning_x86_64, effect_x86_64, HasFlag, IsKept, OfSection, form_width, InNoField, Instruction, SymbolPair, size_of, of_symbol, by_call, by_slot, by_distance, instructions_of, IsInstruction, IsSequence, IsTemplate, reads, reads_without_calls, DoesDemanded, ReferenceHolds, Refuses, static_pie, static_pie_world, general_code, thread_symbol, getter_symbol, MemoryHas}
use Rattle.wild_records.specs.Abi.Relocation.{r_x86_64_plt32}
use Rattle.wild_types.specs.declared.kind.Machine.TheVariants as machine
use Rattle.wild_loader.specs.ThreadCodeX86_64.{general_call, general_slot_call, far_pair_call}
use Rattle.wild_meaning.specs.Sequence.{of_sequence}
use Rattle.wild_meaning.specs.Worked.Static.{general_item, pair_reference, getter_reference}
use Rattle.wild_meaning.specs.Worked.StaticRefusals.{half_sequence, another_offset}
use Rattle.wild_meaning.proofs.EffectLemmas.{meant}
use Rattle.wild_meaning.proofs.AmongLemmas.{Among, pick}
use Rattle.wild_meaning.proofs.OneReference.{has, has_is, fills, fills_is, effect_with, value_in, ReadsNumbers, same_bytes}
use Rattle.wild_meaning.proofs.PairLemmas.{as_pair}
use Rattle.wild_meaning.proofs.StaticRefused.{thread_is, thread_offset, holds_there}

pub pair_formula : x86_64_formula r_x86_64_tlsgd ≡ Some (formula (SlotDistance ModulePair) (Plain 32 Signed))
unfolding x86_64_formula
pair_formula = refl

plt_formula : x86_64_formula r_x86_64_plt32 ≡ Some (formula StubDistance (Plain 32 Signed))
unfolding x86_64_formula
plt_formula = refl

abbrev pub general : Instruction
general = of_sequence general_call 4 SymbolPair r_x86_64_tlsgd of_symbol (by_call 12)

-- ---- the sequence stands there

past : (n offset k : ℕ) (g f : Formula) → x86_64_formula n ≡ Some g → form_width g.form ≡ 4 → (k < offset) ⊎ (offset + 4 ≤ k) → x86_64_formula n ≡ Some f → (k < offset) ⊎ (offset + form_width f.form ≤ k)
past n offset k g f known wide (inl h) e = inl h
past n offset k g f known wide (inr h) e =
    let one : Some g ≡ Some f = sym known ∙ e in
    let same : g ≡ f = cc in
    let width : form_width f.form ≡ 4 = sym (ap (λ (x : Formula). form_width x.form) same) ∙ wide in
    inr (omega (arith, width, h))

beside_both : (k : ℕ) → (k < 4) ⊎ (8 ≤ k) → (k < 12) ⊎ (16 ≤ k) → InNoField static_pie general_item k
beside_both k a b = All-from_recursion (λ (q : InputRelocation). (f : Formula) → x86_64_formula q.number ≡ Some f → (k < q.offset) ⊎ (q.offset + form_width f.form ≤ k)) (pair_reference ∷ getter_reference ∷ []) ((λ f e. past r_x86_64_tlsgd 4 k _ f pair_formula refl a e), ((λ f e. past r_x86_64_plt32 12 k _ f plt_formula refl b e), tt))

general_kept : IsKept static_pie general_item
general_kept = OfSection general_code (record { input = record { group = _; grouped = (0, omega arith, refl); file = _; filed = (0, omega arith, refl); listed = (2, omega arith, refl) }; loaded = tt; room = refl; has_data = refl; written = λ p at h. (let off : false ≡ true = h.only.bare in cc) }) refl

general_stands : IsInstruction static_pie general_item pair_reference 0 general
general_stands = record {
  code = refl;
  known = (25, omega arith, refl);
  number = (0, omega arith, refl);
  field = refl;
  inside = omega arith;
  stands = refl;
  words = refl;
  counts = refl;
  alone = λ k h. subst (λ (j : ℕ). InNoField static_pie general_item j) (let e : k ≡ 0 + k = omega arith in e) (beside_both k h.beside h.apart.0);
}

plain_thread : HasFlag static_pie 2 ifunc false
unfolding has_flag
plain_thread = record { definition = 2; defined = record { symbol = thread_symbol; listed = refl; defined = inr (refl, refl) }; symbol = thread_symbol; listed = refl; flagged = refl }

general_sequence : IsSequence static_pie general_item pair_reference (getter_reference ∷ []) 0 general
general_sequence = record {
  stands = general_stands;
  several = omega arith;
  index = 0;
  listed = refl;
  has = (record { listed = refl; field = refl; number = (1, omega arith, refl); names = (record { index = 3; named = refl; symbol = getter_symbol; listed = refl; getter = refl }, refl) }, tt);
  symbol = 2;
  named = refl;
  met = (tt, (plain_thread, ((λ other. refl), tt)));
}

pub general_template : IsTemplate static_pie general_item pair_reference 0 general pair_reference
general_template = inr (record { rest = getter_reference ∷ []; sequence = general_sequence; one = (0, omega arith, refl) })

pub getter_template : IsTemplate static_pie general_item getter_reference 0 general pair_reference
getter_template = inr (record { rest = getter_reference ∷ []; sequence = general_sequence; one = (1, omega arith, refl) })

-- ---- and it does nothing that is known

general_done : (read : Reader) → effect_x86_64 read 0x41020 half_sequence ≡ None
unfolding meaning_x86_64
general_done read = refl

general_refused : (read : Reader) (m : Memory) → Holds m 0x41020 half_sequence → DoesDemanded read static_pie static_pie_world m general_item pair_reference 0 general → ⊥
general_refused read m held d =
    let h = meant read static_pie static_pie_world m general_item pair_reference 0 general d in
    let bytes : h.bytes ≡ half_sequence = same_bytes m 0x41020 h.bytes half_sequence h.whole h.held held in
    let does : None ≡ Some h.effect = sym (general_done read) ∙ subst (λ (bs : List ℕ). effect_x86_64 read 0x41020 bs ≡ Some h.effect) bytes h.does in
    cc

-- ---- or that has another offset

pub general_demanded : (v : ℕ) → effect_x86_64 (as_value v) 0x41020 general_item.bytes ≡ Some (effect_with (SetThreadAddress 0) 64 (v % 2 ^ 64))
unfolding meaning_x86_64
general_demanded v = refl

offset_done : (read : Reader) → ReadsNumbers read → effect_x86_64 read 0x41020 another_offset ≡ Some (effect_with (SetThreadAddress 0) 64 (2 ^ 64 - 16))
unfolding meaning_x86_64 number
offset_done read h = ap (λ (o : Option ℕ). option_map (with_value (record { deed = SetThreadAddress 0; width = 64; operand = Number (2 ^ 64 - 16) })) o) (h (2 ^ 64 - 16))

offset_refused : (read : Reader) (m : Memory) → ReadsNumbers read → Holds m 0x41020 another_offset → DoesDemanded read static_pie static_pie_world m general_item pair_reference 0 general → ⊥
offset_refused read m numbers held d =
    let h = meant read static_pie static_pie_world m general_item pair_reference 0 general d in
    let bytes : h.bytes ≡ another_offset = same_bytes m 0x41020 h.bytes another_offset h.whole h.held held in
    let done : Some (effect_with (SetThreadAddress 0) 64 (2 ^ 64 - 16)) ≡ Some h.effect = sym (offset_done read numbers) ∙ subst (λ (bs : List ℕ). effect_x86_64 read 0x41020 bs ≡ Some h.effect) bytes h.does in
    let demanded : Some (effect_with (SetThreadAddress 0) 64 (h.value % 2 ^ 64)) ≡ Some h.effect = sym (general_demanded h.value) ∙ h.demanded in
    let same : 2 ^ 64 - 16 ≡ h.value % 2 ^ 64 = value_in (SetThreadAddress 0) 64 (2 ^ 64 - 16) h.effect done ∙ sym (value_in (SetThreadAddress 0) 64 (h.value % 2 ^ 64) h.effect demanded) in
    let offset : h.value ≡ 2 ^ 64 - 8 = thread_offset h.value h.demands in
    omega (arith, same, offset)

-- ---- so no instruction with the relocation is done

-- no instruction alone has the relocation
abbrev IsNone : Instruction → Type 0
IsNone o = ⊥

-- a sequence of that relocation does not do what is demanded, where it stands in the item's bytes
abbrev IsNotDone : Reader → Memory → Instruction → Type 0
IsNotDone read m o = (start : ℕ) → 4 ≡ start + o.field → matches_cells o.template.cells (slice_range general_item.bytes start (start + size_of o)) ≡ true → DoesDemanded read static_pie static_pie_world m general_item pair_reference start o → ⊥

-- other code does not stand there
not_there : (start at : ℕ) (o : Instruction) → start ≡ at → matches_cells o.template.cells (slice_range general_item.bytes at (at + size_of o)) ≡ false → matches_cells o.template.cells (slice_range general_item.bytes start (start + size_of o)) ≡ true → ⊥
not_there start at o e never s =
    let there : matches_cells o.template.cells (slice_range general_item.bytes at (at + size_of o)) ≡ true = subst (λ (k : ℕ). matches_cells o.template.cells (slice_range general_item.bytes k (k + size_of o)) ≡ true) e s in
    let none : false ≡ true = sym never ∙ there in
    cc

-- the sequence is not done
abbrev IsUndone : Reader → Memory → Type 0
IsUndone read m = DoesDemanded read static_pie static_pie_world m general_item pair_reference 0 general → ⊥

no_sequence : (read : Reader) (m : Memory) → IsUndone read m → Among (λ (o : Instruction). has r_x86_64_tlsgd o.numbers) (IsNotDone read m) (instructions_of machine.X86_64)
no_sequence read m undone = (
  (λ start f s d. let at : start ≡ 0 = omega (arith, f) in undone (subst (λ (k : ℕ). DoesDemanded read static_pie static_pie_world m general_item pair_reference k general) at d)),
  ((λ start f s d. not_there start 0 (of_sequence general_slot_call 4 SymbolPair r_x86_64_tlsgd of_symbol (by_slot 12)) (omega (arith, f)) refl s), ((λ start f s d. not_there start 1 (of_sequence far_pair_call 3 SymbolPair r_x86_64_tlsgd of_symbol (by_distance 9)) (omega (arith, f)) refl s), tt)),
)

-- the first relocation of a sequence is the first one
first_is : (first second : InputRelocation) (i : ℕ) → slice_get general_item.relocations i ≡ Some first → slice_get general_item.relocations (i + 1) ≡ Some second → first ≡ pair_reference
first_is first second zero a b = let one : Some pair_reference ≡ Some first = a in cc
first_is first second (suc zero) a b = absurd (let none : None ≡ Some second = b in cc)
first_is first second (suc (suc i)) a b = absurd (let none : None ≡ Some first = a in cc)

not_done : (read : Reader) (m : Memory) → IsUndone read m → (start : ℕ) (o : Instruction) (first : InputRelocation) → IsTemplate static_pie general_item pair_reference start o first → DoesDemanded read static_pie static_pie_world m general_item first start o → ⊥
not_done read m undone start o first (inl s) d = pick (fills r_x86_64_tlsgd) IsNone (instructions_of machine.X86_64) tt o s.0.stands.known (fills_is r_x86_64_tlsgd o s.0.stands.number s.0.single)
not_done read m undone start o first (inr s) d =
    let q = (as_pair static_pie general_item first s.rest start o refl s.sequence).pair in
    let at : first ≡ pair_reference = first_is first _ q.has.index q.has.listed q.has.next in
    let there : IsInstruction static_pie general_item pair_reference start o = subst (λ (r : InputRelocation). IsInstruction static_pie general_item r start o) at s.sequence.stands in
    pick (λ (p : Instruction). has r_x86_64_tlsgd p.numbers) (IsNotDone read m) (instructions_of machine.X86_64) (no_sequence read m undone) o there.known (has_is r_x86_64_tlsgd o.numbers there.number) start there.field there.stands (subst (λ (r : InputRelocation). DoesDemanded read static_pie static_pie_world m general_item r start o) at d)

refused : (m : Memory) → ((read : Reader) → ReadsNumbers read → IsUndone read m) → ReferenceHolds static_pie static_pie_world m general_item pair_reference → ⊥
refused m undone (inl h) = not_done (reads static_pie_world m) m (undone (reads static_pie_world m) (λ n. refl)) 0 general pair_reference general_template (h.does 0 general pair_reference general_template)
refused m undone (inr h) = not_done (reads_without_calls static_pie_world m) m (undone (reads_without_calls static_pie_world m) (λ n. refl)) h.start h.instruction h.first h.template h.does

pub wrong_sequence : Refuses static_pie static_pie_world (MemoryHas 0x41020 half_sequence)
wrong_sequence image h x = refused h.memory (λ read numbers. general_refused read h.memory x) (holds_there h.memory general_item pair_reference _ 2 0x3008 (h.kept general_item general_kept) (0, omega arith, refl) (omega arith) pair_formula refl thread_is)

pub wrong_pair : Refuses static_pie static_pie_world (MemoryHas 0x41020 another_offset)
wrong_pair image h x = refused h.memory (λ read numbers. offset_refused read h.memory numbers x) (holds_there h.memory general_item pair_reference _ 2 0x3008 (h.kept general_item general_kept) (0, omega arith, refl) (omega arith) pair_formula refl thread_is)
