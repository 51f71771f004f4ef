-- Where descriptors' references are offsets, each of them is rewritten: one that is kept is in no such code.
use Rattle.wild_references.proofs.Common.{◌≡◌, ℕ, ◌≤◌, ◌⊎◌, inl, inr, Bool, true, false, length, refl, ap, ◌∙◌, subst, Option, Some, None, Ok, slice_get, ◌==◌, ◌||◌, not, if◌then◌else◌, cases_Bool, eq-eqb, r_x86_64_pc32, r_x86_64_gotpc32_tlsdesc, r_x86_64_code_4_gotpc32_tlsdesc, r_x86_64_tlsdesc_call, Machine, OutputKind, InputRelocation, Resolution, ValueFlags, Layout, has_flag, interposable, ifunc, got_tls_offset, got_tls_module, got_tls_descriptor, is_executable, is_static_executable, canonical, has_thread_slot, flags_at, Row, DESCRIPTOR_CALL, rows_x86_64, applies, question_of, choice_of, is_thread_type, after_word, after_pair, term_of, KnowsOffsets, HasOffsetMode, Item, code_bit, SymbolsFit}
use Rattle.wild_types.specs.declared.kind.Machine.TheVariants as machine
use Rattle.wild_types.specs.declared.kind.OutputKind.TheVariants as output
use Rattle.wild_types.specs.declared.fault.Missing.TheVariants as missing
use Rattle.wild_reloc.specs.declared.expression.SlotSort.TheVariants as sorts
use Rattle.wild_reloc.specs.declared.info.RelocationKind.TheVariants as kinds
use Rattle.wild_relax.specs.declared.table.TheConstants.{DESCRIPTOR, DESCRIPTOR_SLOT, DESCRIPTOR_2, DESCRIPTOR_SLOT_2}
use Rattle.wild_layout.specs.SlotValues.{slot_of}
use Rattle.wild_references.proofs.DescriptorSlots.{thread_of}
use Rattle.wild_references.proofs.Rows.{row_applies, nothing_stands, unchosen}
use Rattle.wild_references.proofs.TableRows.{descriptor_at, descriptor_slot_at, descriptor_2_at, descriptor_slot_2_at, call_at}
use Rattle.wild_references.proofs.SlotFlags.{symbol_fits, thread_not_chosen}
use Rattle.wild_references.proofs.SlotTerms.{by_slot}
use Rattle.wild_references.proofs.Symbols.{IsResolvedBy, flags_are}
use Rattle.wild_references.proofs.WrittenFields.{given_some}

-- ---- outputs whose references are offsets

-- the rows of descriptors stand there
record RowsStand (l : Layout) : Type 0 where
  program : is_executable l.kind ≡ true
  duty : (l.options.relax || is_static_executable l.kind) ≡ true

rows_stand : (l : Layout) → l.machine ≡ machine.X86_64 → KnowsOffsets l.machine l.kind l → RowsStand l
rows_stand l x86 h = by_kind l.kind refl (subst (λ (k : Machine). KnowsOffsets k l.kind l) x86 h)
  where
    either_true : (a b : Bool) → b ≡ true → (a || b) ≡ true
    either_true true b e = refl
    either_true false b e = e

    first_true : (a b : Bool) → a ≡ true → (a || b) ≡ true
    first_true true b e = refl
    first_true false b e = cc

    by_kind : (k : OutputKind) → l.kind ≡ k → KnowsOffsets machine.X86_64 k l → RowsStand l
    by_kind (output.StaticExecutable any) e h = record { program = ap is_executable e; duty = either_true l.options.relax (is_static_executable l.kind) (ap is_static_executable e) }
    by_kind (output.DynamicExecutable any) e h = record { program = ap is_executable e; duty = first_true l.options.relax (is_static_executable l.kind) h }
    by_kind output.SharedObject e h = absurd h
    by_kind output.PartialObject e h = absurd h

-- ---- the reference itself

-- which of both rows stands is told by whose symbol it is
lea_kept : (l : Layout) (s : Item) (r : InputRelocation) (next : Option InputRelocation) (own_row open_row : Row) (i a b : ℕ) → choice_of l s r next ≡ Ok None → r.symbol ≡ Some i
    → slice_get rows_x86_64 a ≡ Some own_row → slice_get rows_x86_64 b ≡ Some open_row → (r.number == r_x86_64_pc32) ≡ false → is_thread_type r.number ≡ true → (not (interposable (flags_at l i)) ≡ true → applies (question_of l s r i next) own_row ≡ true)
    → (not (not (interposable (flags_at l i))) ≡ true → applies (question_of l s r i next) open_row ≡ true) → ⊥
lea_kept l s r next own_row open_row i a b none named first second other thread own_stands open_stands =
    elim (cases_Bool (not (interposable (flags_at l i)))) [
      | inl own ↦
          (let stands = own_stands own in
          let gone = unchosen l s r next i a own_row none named other thread first in
          cc)
      | inr open_one ↦
          (let stands = open_stands (rw open_one refl) in
          let gone = unchosen l s r next i b open_row none named other thread second in
          cc)
    ]

-- a symbol with a descriptor is none that a resolver chooses
described_plain : (l : Layout) (i slot : ℕ) → SymbolsFit l → slot_of l sorts.TlsDesc i ≡ Some slot → has_flag (flags_at l i) ifunc ≡ false
described_plain l i slot fit h = by_slot sorts.TlsDesc l i slot (λ (n : ℕ). has_flag (flags_at l i) ifunc ≡ false) h (λ r at d e among. by_flag r at d (has_flag r.flags got_tls_descriptor) refl among)
  where
    by_flag : (r : Resolution) (at : ℕ) → IsResolvedBy l i r → (b : Bool) → has_flag r.flags got_tls_descriptor ≡ b → (if b then Some (after_pair (has_flag r.flags got_tls_module) (after_word (has_flag r.flags got_tls_offset) at)) else None) ≡ Some slot → has_flag (flags_at l i) ifunc ≡ false
    by_flag r at d false asked h = cc
    by_flag r at d true asked h =
        let fits = symbol_fits l i d.symbol fit d.listed in
        let flags : r.flags ≡ d.symbol.flags = fits.flags r d.decided in
        let thread : has_thread_slot d.symbol.flags ≡ true = subst (λ (f : ValueFlags). has_thread_slot f ≡ true) flags (thread_of r.flags asked) in
        ap (λ (f : ValueFlags). has_flag f ifunc) (flags_are l i (canonical l i) d.symbol d.defined d.listed) ∙ thread_not_chosen d.symbol fits.alone thread

-- the reference to a descriptor that is kept is in no such code
pub descriptor_kept : (l : Layout) (s : Item) (r : InputRelocation) (next : Option InputRelocation) (i term : ℕ) → choice_of l s r next ≡ Ok None → l.machine ≡ machine.X86_64 → SymbolsFit l → r.symbol ≡ Some i → (r.number ≡ r_x86_64_gotpc32_tlsdesc) ⊎ (r.number ≡ r_x86_64_code_4_gotpc32_tlsdesc) → term_of l r.symbol kinds.TlsDesc ≡ Ok term → r.offset ≤ length s.bytes → HasOffsetMode l s → ⊥
descriptor_kept l s r next i term none x86 fit named number given inside h =
    let here : term_of l (Some i) kinds.TlsDesc ≡ Ok term = subst (λ (o : Option ℕ). term_of l o kinds.TlsDesc ≡ Ok term) named given in
    let plain = described_plain l i term fit (given_some missing.Slot i (slot_of l sorts.TlsDesc i) term here) in
    let q = question_of l s r i next in
    let k = rows_stand l x86 h.0 in
    let code = code_bit s.flags h.1 in
    let direct : not (has_flag (flags_at l i) ifunc) ≡ true = rw plain refl in
    let bytes = nothing_stands s.bytes r.offset inside in
    elim number [
      | inl e ↦
          lea_kept l s r next DESCRIPTOR DESCRIPTOR_SLOT i 28 29 none named descriptor_at descriptor_slot_at (ap (λ (n : ℕ). n == r_x86_64_pc32) e) (ap is_thread_type e)
          (λ own. row_applies q DESCRIPTOR (eq-eqb r.number r_x86_64_gotpc32_tlsdesc e) k.duty code direct k.program own refl bytes)
          (λ taken. row_applies q DESCRIPTOR_SLOT (eq-eqb r.number r_x86_64_gotpc32_tlsdesc e) k.duty code direct k.program taken refl bytes)
      | inr e ↦
          lea_kept l s r next DESCRIPTOR_2 DESCRIPTOR_SLOT_2 i 30 31 none named descriptor_2_at descriptor_slot_2_at (ap (λ (n : ℕ). n == r_x86_64_pc32) e) (ap is_thread_type e)
          (λ own. row_applies q DESCRIPTOR_2 (eq-eqb r.number r_x86_64_code_4_gotpc32_tlsdesc e) k.duty code direct k.program own refl bytes)
          (λ taken. row_applies q DESCRIPTOR_SLOT_2 (eq-eqb r.number r_x86_64_code_4_gotpc32_tlsdesc e) k.duty code direct k.program taken refl bytes)
    ]

-- ---- the call

pub call_kept : (l : Layout) (s : Item) (r : InputRelocation) (next : Option InputRelocation) (i : ℕ) → choice_of l s r next ≡ Ok None → l.machine ≡ machine.X86_64 → r.symbol ≡ Some i → r.number ≡ r_x86_64_tlsdesc_call → HasOffsetMode l s → ⊥
call_kept l s r next i none x86 named number h =
    let q = question_of l s r i next in
    let k = rows_stand l x86 h.0 in
    let stands = row_applies q DESCRIPTOR_CALL (eq-eqb r.number r_x86_64_tlsdesc_call number) k.duty (code_bit s.flags h.1) refl k.program refl refl refl in
    let gone = unchosen l s r next i 32 DESCRIPTOR_CALL none named (ap (λ (n : ℕ). n == r_x86_64_pc32) number) (ap is_thread_type number) call_at in
    cc
