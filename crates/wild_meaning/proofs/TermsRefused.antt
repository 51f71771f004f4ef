-- Fields of data that hold another number than their type's expression are refused.
use Rattle.wild_meaning.proofs.Common.{◌≡◌, ℕ, ◌+◌, ◌-◌, ◌/◌, ◌%◌, ◌^◌, ◌≤◌, inl, inr, List, [], ◌∷◌, length, refl, sym, ap, ◌∙◌, subst, arith, ◌≢◌, if◌then◌else◌, Option, Some, None, slice_range, w64, cast_unsigned, number, r_x86_64_dtpoff64, r_aarch64_adr_got_page, Formula, formula, Value, SymbolAddress, SymbolPart, PageDistance, SlotPageDistance, AddressSlot, ModuleOffset, Plain, Full, AdrField, Imm12Field, NoCheck, WithinPower, Bits, x86_64_formula, aarch64_formula, Machine, OutputKind, InputRelocation, Layout, Item, Memory, World, number_in, place_at, formula_of, FieldReads, IsExecutable, HasValue, IsAddressStub, HasThreadOffset, IsSlot, IsReferent, IsReferentOnAArch64, IsSum}
use Rattle.wild_records.specs.Abi.Relocation.{r_x86_64_32, r_x86_64_got64, r_x86_64_gotoff64, r_x86_64_gotpc64, r_x86_64_pltoff64, r_aarch64_adr_prel_pg_hi21, r_aarch64_ld64_gotpage_lo15, r_aarch64_ldst32_abs_lo12_nc}
use Rattle.wild_reloc.specs.Formula.{FromTable, StubFromTable, TableDistance, SlotFromTable, SlotFromTablePage, Unsigned, Field, Check, BelowPower, ReadsBits, immediate}
use Rattle.wild_types.specs.declared.kind.Machine.TheVariants as machine
use Rattle.wild_types.specs.declared.kind.OutputKind.TheVariants as output
use Rattle.wild_reloc.specs.BarredTypes.{is_listed}
use Rattle.wild_meaning.specs.Thread.{IsOffsetBase}
use Rattle.wild_meaning.specs.Slot.{IsSlotOf}
use Rattle.wild_meaning.specs.ReferentAArch64.{IsUndefinedWeak, branch_types, own_place, IsOneAddress}
use Rattle.wild_meaning.specs.Formula.{table_at, page_of, IsOffset, IsReferentOnX86_64}
use Rattle.wild_meaning.specs.Worked.TermRefusals.{HoldsInData, HasImmediate, HoldsPage, page_bits, WrongTermsAreRefused, WrongPagesAreRefused, CutNumbersAreRefused, OtherBitsAreRefused}
use Rattle.wild_meaning.proofs.Read.{full_of, number_of}
use Rattle.wild_meaning.proofs.Refused.{HasValueThere, data_there}
use Rattle.wild_meaning.proofs.StringLemmas.{nameless, referent_by}

-- the formula of the type gives the value
value_in_data : (k : Machine) (sort : ℕ) (l : Layout) (w : World) (m : Memory) (item : Item) (r : InputRelocation) (f : Formula) → formula_of k sort ≡ Some f → HoldsInData k sort l w m item r → HasValueThere l w m item r f
value_in_data k sort l w m item r f known h =
    let at : formula_of l.machine r.number ≡ Some f = subst (λ (q : Machine). formula_of q r.number ≡ Some f) (sym h.machine) (subst (λ (n : ℕ). formula_of k n ≡ Some f) (sym h.number) known) in
    data_there l w m item r f h.plain at h.holds

-- without a symbol S and L are 0
nothing_is : (l : Layout) (v : Value) (w : World) (m : Memory) (item : Item) (r : InputRelocation) (a : ℕ) → l.machine ≡ machine.X86_64 → r.symbol ≡ None → ((b : ℕ) → IsReferentOnX86_64 v l w m None b → b ≡ 0) → IsReferent l.machine v l w m item r a → a ≡ 0
nothing_is l v w m item r a is none zero h =
    let there : IsReferent machine.X86_64 v l w m item r a = subst (λ (k : Machine). IsReferent k v l w m item r a) is h in
    let plain : IsReferentOnX86_64 v l w m r.symbol a = referent_by machine.X86_64 v l w m item r a (λ t. nameless l r none t.1) there in
    zero a (subst (λ (o : Option ℕ). IsReferentOnX86_64 v l w m o a) none plain)

none_added : (n : ℕ) → 0 + n ≡ n
none_added n = omega arith

sum_is : (l : Layout) (v : Value) (w : World) (m : Memory) (item : Item) (r : InputRelocation) (x : ℕ) → l.machine ≡ machine.X86_64 → r.symbol ≡ None → ((b : ℕ) → IsReferentOnX86_64 v l w m None b → b ≡ 0) → IsSum v l w m item r x → x ≡ cast_unsigned w64 r.addend % 2 ^ 64
sum_is l v w m item r x is none zero s = s.sum ∙ ap (λ (n : ℕ). (n + cast_unsigned w64 r.addend) % 2 ^ 64) (nothing_is l v w m item r s.symbol is none zero s.denoted) ∙ ap (λ (n : ℕ). n % 2 ^ 64) (none_added (cast_unsigned w64 r.addend))

table_formula : x86_64_formula r_x86_64_gotpc64 ≡ Some (formula TableDistance Full)
unfolding x86_64_formula
table_formula = refl

from_table_formula : x86_64_formula r_x86_64_gotoff64 ≡ Some (formula FromTable Full)
unfolding x86_64_formula
from_table_formula = refl

stub_formula : x86_64_formula r_x86_64_pltoff64 ≡ Some (formula StubFromTable Full)
unfolding x86_64_formula
stub_formula = refl

short_formula : x86_64_formula r_x86_64_32 ≡ Some (formula SymbolAddress (Plain 32 Unsigned))
unfolding x86_64_formula
short_formula = refl

word_formula : aarch64_formula r_aarch64_ldst32_abs_lo12_nc ≡ Some (formula SymbolPart (Bits Imm12Field 11 2 NoCheck 4))
unfolding aarch64_formula
word_formula = refl

slot_formula : x86_64_formula r_x86_64_got64 ≡ Some (formula SlotFromTable Full)
unfolding x86_64_formula
slot_formula = refl

inside_formula : x86_64_formula r_x86_64_dtpoff64 ≡ Some (formula ModuleOffset Full)
unfolding x86_64_formula
inside_formula = refl

-- the slot of a reference's symbol
slot_of : (l : Layout) (w : World) (m : Memory) (o : Option ℕ) (i g : ℕ) → o ≡ Some i → IsSlot AddressSlot l w m o g → IsSlotOf AddressSlot l w m i g
slot_of l w m o i g named h = subst (λ (x : Option ℕ). IsSlot AddressSlot l w m x g) named h

-- in an executable offsets count from the thread pointer
program_base : (k : OutputKind) (w : World) (b : ℕ) → IsExecutable k → IsOffsetBase machine.X86_64 k w b → b ≡ 0
program_base (output.StaticExecutable any) w b h e = e
program_base (output.DynamicExecutable any) w b h e = e
program_base output.SharedObject w b h e = absurd h
program_base output.PartialObject w b h e = absurd h

pub base_is : (l : Layout) (w : World) (b : ℕ) → l.machine ≡ machine.X86_64 → IsExecutable l.kind → IsOffsetBase l.machine l.kind w b → b ≡ 0
base_is l w b x program h = program_base l.kind w b program (subst (λ (k : Machine). IsOffsetBase k l.kind w b) x h)

pub wrong_terms : WrongTermsAreRefused
wrong_terms = record {
  table = λ l w m item r n h there wrong.
      (let v = value_in_data machine.X86_64 r_x86_64_gotpc64 l w m item r (formula TableDistance Full) table_formula h in
      wrong (sym (full_of w m item r v.value n v.field there) ∙ v.gives));
  from_table = λ l w m item r n h none there wrong.
      (let v = value_in_data machine.X86_64 r_x86_64_gotoff64 l w m item r (formula FromTable Full) from_table_formula h in
      let sum = sum_is l FromTable w m item r v.gives.0 h.machine none (λ b e. e) v.gives.1 in
      wrong (sym (full_of w m item r v.value n v.field there) ∙ (v.gives.2 ∙ ap (λ (t : ℕ). (t + (2 ^ 64 - table_at l w)) % 2 ^ 64) sum)));
  stub = λ l w m item r n h none there wrong.
      (let v = value_in_data machine.X86_64 r_x86_64_pltoff64 l w m item r (formula StubFromTable Full) stub_formula h in
      let zero = nothing_is l StubFromTable w m item r v.gives.0 h.machine none (λ b e. e) v.gives.1 in
      wrong (sym (full_of w m item r v.value n v.field there) ∙ (v.gives.2 ∙ ap (λ (a : ℕ). (a + cast_unsigned w64 r.addend + (2 ^ 64 - table_at l w)) % 2 ^ 64) zero ∙ ap (λ (a : ℕ). (a + (2 ^ 64 - table_at l w)) % 2 ^ 64) (none_added (cast_unsigned w64 r.addend)))));
  slot = λ l w m item r i n h named there wrong.
      (let v = value_in_data machine.X86_64 r_x86_64_got64 l w m item r (formula SlotFromTable Full) slot_formula h in
      let s = slot_of l w m r.symbol i v.gives.0 named v.gives.1 in
      wrong s.slot s.given (sym (full_of w m item r v.value n v.field there) ∙ (v.gives.2 ∙ ap (λ (g : ℕ). (g + cast_unsigned w64 r.addend + (2 ^ 64 - table_at l w)) % 2 ^ 64) s.moves)));
  inside = λ l w m item r i n h named program there wrong.
      (let v = value_in_data machine.X86_64 r_x86_64_dtpoff64 l w m item r (formula ModuleOffset Full) inside_formula h in
      let t : HasThreadOffset l w i v.gives.0 = subst (λ (o : Option ℕ). IsOffset l w o v.gives.0) named v.gives.2 in
      let base : v.gives.1 ≡ 0 = base_is l w v.gives.1 h.machine program v.gives.3 in
      let is : v.value ≡ (v.gives.0 + cast_unsigned w64 r.addend + (2 ^ 64 - v.gives.1)) % 2 ^ 64 = v.gives.4 in
      let same : v.value ≡ n = full_of w m item r v.value n v.field there in
      wrong v.gives.0 t (omega (arith, base, is, same)));
}

-- ---- pages

bits_are : (w : World) (m : Memory) (item : Item) (r : InputRelocation) (field : Field) (high low : ℕ) (check : Check) (unit x n : ℕ) → FieldReads w m item r (Bits field high low check unit) x → HasImmediate w m item r field n → n ≡ x / 2 ^ low % 2 ^ (high + 1 - low)
bits_are w m item r field high low check unit x n f h =
    let word : number f.bytes ≡ h.word = number_of m (place_at w item r.offset) 4 h.word f.bytes f.wide f.held h.there in
    let reads : ReadsBits field high low check unit (number f.bytes) x = f.reads in
    sym h.is ∙ (ap (immediate field) (sym word) ∙ reads.bits)

page_formula : aarch64_formula r_aarch64_adr_prel_pg_hi21 ≡ Some (formula PageDistance (Bits AdrField 32 12 (WithinPower 33) 4096))
unfolding aarch64_formula
page_formula = refl

slot_page_formula : aarch64_formula r_aarch64_adr_got_page ≡ Some (formula (SlotPageDistance AddressSlot) (Bits AdrField 32 12 (WithinPower 33) 4096))
unfolding aarch64_formula
slot_page_formula = refl

slot_offset_formula : aarch64_formula r_aarch64_ld64_gotpage_lo15 ≡ Some (formula SlotFromTablePage (Bits Imm12Field 14 3 (BelowPower 15) 8))
unfolding aarch64_formula
slot_offset_formula = refl

-- what the page is of
record IsPage (l : Layout) (w : World) (m : Memory) (item : Item) (r : InputRelocation) (i n : ℕ) : Type 0 where
  symbol : ℕ
  represents : IsReferentOnAArch64 PageDistance l w m item r (Some i) symbol
  bits : n ≡ page_bits ((symbol + cast_unsigned w64 r.addend) % 2 ^ 64) (place_at w item r.offset)

page_there : (l : Layout) (w : World) (m : Memory) (item : Item) (r : InputRelocation) (i n : ℕ) → HoldsPage l w m item r i n → IsPage l w m item r i n
page_there l w m item r i n h =
    let v = value_in_data machine.AArch64 r_aarch64_adr_prel_pg_hi21 l w m item r (formula PageDistance (Bits AdrField 32 12 (WithinPower 33) 4096)) page_formula h.reference in
    let s = v.gives.1 in
    let there : IsReferent machine.AArch64 PageDistance l w m item r s.symbol = subst (λ (k : Machine). IsReferent k PageDistance l w m item r s.symbol) h.reference.machine s.denoted in
    let on : IsReferentOnAArch64 PageDistance l w m item r r.symbol s.symbol = referent_by machine.AArch64 PageDistance l w m item r s.symbol (λ t. h.plain t.1) there in
    let bits : n ≡ v.value / 2 ^ 12 % 2 ^ 21 = bits_are w m item r AdrField 32 12 (WithinPower 33) 4096 v.value n v.field h.bits in
    record {
      symbol = s.symbol;
      represents = subst (λ (o : Option ℕ). IsReferentOnAArch64 PageDistance l w m item r o s.symbol) h.named on;
      bits = bits ∙ (ap (λ (x : ℕ). x / 2 ^ 12 % 2 ^ 21) v.gives.2 ∙ ap (λ (t : ℕ). page_bits t (place_at w item r.offset)) s.sum);
    }

weak_place : (l : Layout) (w : World) (m : Memory) (item : Item) (r : InputRelocation) (i a : ℕ) → IsUndefinedWeak l i → IsReferentOnAArch64 PageDistance l w m item r (Some i) a → a ≡ own_place w item r
weak_place l w m item r i a weak (inl h) = h.1
weak_place l w m item r i a weak (inr h) = absurd (h.0 (tt, weak))

other_place : (l : Layout) (w : World) (m : Memory) (item : Item) (r : InputRelocation) (i a : ℕ) → (IsUndefinedWeak l i → ⊥) → IsReferentOnAArch64 PageDistance l w m item r (Some i) a → IsOneAddress l w m i a
other_place l w m item r i a other (inl h) = absurd (other h.0.1)
other_place l w m item r i a other (inr h) = h.1

-- no branch
place_of : (w : World) (item : Item) (r : InputRelocation) → r.number ≡ r_aarch64_adr_prel_pg_hi21 → own_place w item r ≡ (place_at w item r.offset + 0) % 2 ^ 64
place_of w item r e = subst (λ (n : ℕ). (place_at w item r.offset + (if is_listed n branch_types then 4 else 0)) % 2 ^ 64 ≡ (place_at w item r.offset + 0) % 2 ^ 64) (sym e) refl

stub_wrong : (l : Layout) (w : World) (m : Memory) (item : Item) (r : InputRelocation) (i n q a : ℕ) → IsAddressStub l i q → ((p : ℕ) → IsAddressStub l i p → n ≢ page_bits (((w.base + p) % 2 ^ 64 + cast_unsigned w64 r.addend) % 2 ^ 64) (place_at w item r.offset)) → n ≡ page_bits ((a + cast_unsigned w64 r.addend) % 2 ^ 64) (place_at w item r.offset) → IsOneAddress l w m i a → ⊥
stub_wrong l w m item r i n q a stub wrong bits (inl o) = wrong o.0 o.1 (bits ∙ ap (λ (s : ℕ). page_bits ((s + cast_unsigned w64 r.addend) % 2 ^ 64) (place_at w item r.offset)) o.2)
stub_wrong l w m item r i n q a stub wrong bits (inr o) = o.0 q stub

value_wrong : (l : Layout) (w : World) (m : Memory) (item : Item) (r : InputRelocation) (i n a : ℕ) → ((p : ℕ) → IsAddressStub l i p → ⊥) → ((s : ℕ) → HasValue l w i s → n ≢ page_bits ((s + cast_unsigned w64 r.addend) % 2 ^ 64) (place_at w item r.offset)) → n ≡ page_bits ((a + cast_unsigned w64 r.addend) % 2 ^ 64) (place_at w item r.offset) → IsOneAddress l w m i a → ⊥
value_wrong l w m item r i n a none wrong bits (inl o) = none o.0 o.1
value_wrong l w m item r i n a none wrong bits (inr o) = wrong a o.1 bits

pub wrong_pages : WrongPagesAreRefused
wrong_pages = record {
  slot = λ l w m item r i n h named bits wrong.
      (let v = value_in_data machine.AArch64 r_aarch64_adr_got_page l w m item r (formula (SlotPageDistance AddressSlot) (Bits AdrField 32 12 (WithinPower 33) 4096)) slot_page_formula h in
      let s = slot_of l w m r.symbol i v.gives.0 named v.gives.1.0 in
      let same : n ≡ v.value / 2 ^ 12 % 2 ^ 21 = bits_are w m item r AdrField 32 12 (WithinPower 33) 4096 v.value n v.field bits in
      wrong s.slot s.given (same ∙ (ap (λ (x : ℕ). x / 2 ^ 12 % 2 ^ 21) v.gives.2 ∙ ap (λ (g : ℕ). page_bits g (place_at w item r.offset)) s.moves)));
  from_table = λ l w m item r i n h named bits wrong.
      (let v = value_in_data machine.AArch64 r_aarch64_ld64_gotpage_lo15 l w m item r (formula SlotFromTablePage (Bits Imm12Field 14 3 (BelowPower 15) 8)) slot_offset_formula h in
      let s = slot_of l w m r.symbol i v.gives.0 named v.gives.1.0 in
      let same : n ≡ v.value / 2 ^ 3 % 2 ^ 12 = bits_are w m item r Imm12Field 14 3 (BelowPower 15) 8 v.value n v.field bits in
      wrong s.slot s.given (same ∙ (ap (λ (x : ℕ). x / 2 ^ 3 % 2 ^ 12) v.gives.2 ∙ ap (λ (g : ℕ). (g + (2 ^ 64 - page_of (table_at l w))) % 2 ^ 64 / 2 ^ 3 % 2 ^ 12) s.moves)));
  weak = λ l w m item r i n h weak wrong.
      (let p = page_there l w m item r i n h in
      let at : p.symbol ≡ (place_at w item r.offset + 0) % 2 ^ 64 = weak_place l w m item r i p.symbol weak p.represents ∙ place_of w item r h.reference.number in
      let sum : (p.symbol + cast_unsigned w64 r.addend) % 2 ^ 64 ≡ (place_at w item r.offset + cast_unsigned w64 r.addend) % 2 ^ 64 = omega (arith, at) in
      wrong (p.bits ∙ ap (λ (a : ℕ). page_bits a (place_at w item r.offset)) sum));
  stub = λ l w m item r i n q h other stub wrong.
      (let p = page_there l w m item r i n h in
      stub_wrong l w m item r i n q p.symbol stub wrong p.bits (other_place l w m item r i p.symbol other p.represents));
  value = λ l w m item r i n h other none wrong.
      (let p = page_there l w m item r i n h in
      value_wrong l w m item r i n p.symbol none wrong p.bits (other_place l w m item r i p.symbol other p.represents));
}

pub cut_numbers : CutNumbersAreRefused
cut_numbers l w m item r n h none there below above =
    let v = value_in_data machine.X86_64 r_x86_64_32 l w m item r (formula SymbolAddress (Plain 32 Unsigned)) short_formula h in
    let sum = sum_is l SymbolAddress w m item r v.value h.machine none (λ b e. e) v.gives in
    let same : number v.field.bytes ≡ v.value = v.field.reads in
    let word : number v.field.bytes ≡ n = number_of m (place_at w item r.offset) 4 n v.field.bytes v.field.wide v.field.held there in
    omega (arith, sum, same, word, below, above)

abbrev ldst : Formula
ldst = formula SymbolPart (Bits Imm12Field 11 2 NoCheck 4)

-- the word there has the input's other bits
record HasInputBits (item : Item) (r : InputRelocation) (n : ℕ) : Type 0 where
  low : number (slice_range item.bytes r.offset (r.offset + 4)) % 2 ^ 10 ≡ n % 2 ^ 10
  high : number (slice_range item.bytes r.offset (r.offset + 4)) / 2 ^ 22 ≡ n / 2 ^ 22

two_equal : (a b c d : ℕ) → ◌≡◌ {A = List ℕ} (a ∷ b ∷ []) (c ∷ d ∷ []) → (a ≡ c) × (b ≡ d)
two_equal a b c d e = (let first : a ≡ c = cc in first, let second : b ≡ d = cc in second)

bits_there : (l : Layout) (w : World) (m : Memory) (item : Item) (r : InputRelocation) (n : ℕ) → HoldsInData machine.AArch64 r_aarch64_ldst32_abs_lo12_nc l w m item r → number_in m (place_at w item r.offset) 4 ≡ Some n → HasInputBits item r n
bits_there l w m item r n h there =
    let v = value_in_data machine.AArch64 r_aarch64_ldst32_abs_lo12_nc l w m item r ldst word_formula h in
    let word : number v.field.bytes ≡ n = number_of m (place_at w item r.offset) 4 n v.field.bytes v.field.wide v.field.held there in
    let old = number (slice_range item.bytes r.offset (r.offset + 4)) in
    let keeps = two_equal (old % 2 ^ 10) (old / 2 ^ 22) (number v.field.bytes % 2 ^ 10) (number v.field.bytes / 2 ^ 22) v.field.keeps in
    record { low = keeps.0 ∙ ap (λ (k : ℕ). k % 2 ^ 10) word; high = keeps.1 ∙ ap (λ (k : ℕ). k / 2 ^ 22) word }

pub other_bits : OtherBitsAreRefused
other_bits = record {
  opcode = λ l w m item r n h there wrong. wrong (bits_there l w m item r n h there).high;
  registers = λ l w m item r n h there wrong. wrong (bits_there l w m item r n h there).low;
}
