-- Fields of data that hold another number than their type's expression, in any layout.
--   WrongTermsAreRefused   another distance of the global offset table, or from it; another offset in an executable's own data
--   WrongPagesAreRefused   another page of a symbol or of its slot
--   CutNumbersAreRefused   a number that does not fit its field
--   OtherBitsAreRefused    another bit outside the field of an instruction word
use Rattle.std.specs.Prelude.{◌≡◌, ◌≢◌, ℕ, ◌+◌, ◌-◌, ◌/◌, ◌%◌, ◌^◌, ◌<◌, ◌≤◌, None, Some, slice_range}
use Rattle.std.specs.Int.{w64, cast_unsigned}
use Rattle.wild_words.specs.Words.{number}
use Rattle.wild_records.specs.Abi.Relocation.{r_x86_64_32, r_x86_64_got64, r_x86_64_gotoff64, r_x86_64_gotpc64, r_x86_64_pltoff64, r_x86_64_dtpoff64, r_aarch64_adr_prel_pg_hi21, r_aarch64_adr_got_page, r_aarch64_ld64_gotpage_lo15, r_aarch64_ldst32_abs_lo12_nc}
use Rattle.wild_records.specs.Abi.Section.{shf_execinstr}
use Rattle.wild_reloc.specs.Formula.{AddressSlot, Field, AdrField, Imm12Field, immediate}
use Rattle.wild_types.specs.declared.kind.Machine.{Machine}
use Rattle.wild_types.specs.declared.kind.Machine.TheVariants as machine
use Rattle.wild_types.specs.declared.input.InputRelocation.{InputRelocation}
use Rattle.wild_types.specs.declared.layout.Layout.{Layout}
use Rattle.wild_types.specs.Item.{Item}
use Rattle.wild_loader.specs.declared.memory.Memory.{Memory}
use Rattle.wild_loader.specs.declared.world.World.{World}
use Rattle.wild_loader.specs.Memory.{number_in}
use Rattle.wild_meaning.specs.Section.{IsSet}
use Rattle.wild_meaning.specs.Item.{place_at}
use Rattle.wild_meaning.specs.World.{IsExecutable}
use Rattle.wild_meaning.specs.Value.{HasValue}
use Rattle.wild_meaning.specs.Thread.{HasThreadOffset}
use Rattle.wild_meaning.specs.Slot.{HasSlot}
use Rattle.wild_meaning.specs.Strings.{NamesStrings}
use Rattle.wild_meaning.specs.Denotes.{IsAddressStub}
use Rattle.wild_meaning.specs.ReferentAArch64.{IsUndefinedWeak}
use Rattle.wild_meaning.specs.Formula.{table_at, page_of}
use Rattle.wild_meaning.specs.Reference.{ReferenceHolds}

-- a reference of this type in data holds
pub record HoldsInData (on : Machine) (sort : ℕ) (l : Layout) (w : World) (m : Memory) (item : Item) (r : InputRelocation) : Type 0 where
  pub machine : l.machine ≡ on
  pub plain : IsSet item.flags shf_execinstr → ⊥
  pub number : r.number ≡ sort
  pub holds : ReferenceHolds l w m item r

-- a field of 8 bytes holds n
abbrev pub HasNumber : World → Memory → Item → InputRelocation → ℕ → Type 0
HasNumber w m item r n = number_in m (place_at w item r.offset) 8 ≡ Some n

-- GOT + A - P; without a symbol, S + A - GOT and L + A - GOT; G + A - GOT; and, in an executable, the thread-pointer offset + A
pub record WrongTermsAreRefused : Type 0 where
  pub table : (l : Layout) (w : World) (m : Memory) (item : Item) (r : InputRelocation) (n : ℕ) → HoldsInData machine.X86_64 r_x86_64_gotpc64 l w m item r → HasNumber w m item r n → n ≢ (table_at l w + cast_unsigned w64 r.addend + (2 ^ 64 - place_at w item r.offset)) % 2 ^ 64 → ⊥
  pub from_table : (l : Layout) (w : World) (m : Memory) (item : Item) (r : InputRelocation) (n : ℕ) → HoldsInData machine.X86_64 r_x86_64_gotoff64 l w m item r → r.symbol ≡ None → HasNumber w m item r n → n ≢ (cast_unsigned w64 r.addend % 2 ^ 64 + (2 ^ 64 - table_at l w)) % 2 ^ 64 → ⊥
  pub stub : (l : Layout) (w : World) (m : Memory) (item : Item) (r : InputRelocation) (n : ℕ) → HoldsInData machine.X86_64 r_x86_64_pltoff64 l w m item r → r.symbol ≡ None → HasNumber w m item r n → n ≢ (cast_unsigned w64 r.addend + (2 ^ 64 - table_at l w)) % 2 ^ 64 → ⊥
  pub slot : (l : Layout) (w : World) (m : Memory) (item : Item) (r : InputRelocation) (i n : ℕ) → HoldsInData machine.X86_64 r_x86_64_got64 l w m item r → r.symbol ≡ Some i → HasNumber w m item r n → ((p : ℕ) → HasSlot AddressSlot l i p → n ≢ ((w.base + p) % 2 ^ 64 + cast_unsigned w64 r.addend + (2 ^ 64 - table_at l w)) % 2 ^ 64) → ⊥
  pub inside : (l : Layout) (w : World) (m : Memory) (item : Item) (r : InputRelocation) (i n : ℕ) → HoldsInData machine.X86_64 r_x86_64_dtpoff64 l w m item r → r.symbol ≡ Some i → IsExecutable l.kind → HasNumber w m item r n → ((t : ℕ) → HasThreadOffset l w i t → n ≢ (t + cast_unsigned w64 r.addend) % 2 ^ 64) → ⊥

-- the immediate of the field's word
pub record HasImmediate (w : World) (m : Memory) (item : Item) (r : InputRelocation) (field : Field) (i : ℕ) : Type 0 where
  pub word : ℕ
  pub there : number_in m (place_at w item r.offset) 4 ≡ Some word
  pub is : immediate field word ≡ i

-- bits 12 to 32 of the distance from one page to another (aaelf64, "Relocation operations": R_AARCH64_ADR_PREL_PG_HI21)
abbrev pub page_bits : ℕ → ℕ → ℕ
page_bits a p = (page_of a + (2 ^ 64 - page_of p)) % 2 ^ 64 / 2 ^ 12 % 2 ^ 21

-- a page of the symbol that is not a merged string's
pub record HoldsPage (l : Layout) (w : World) (m : Memory) (item : Item) (r : InputRelocation) (i n : ℕ) : Type 0 where
  pub reference : HoldsInData machine.AArch64 r_aarch64_adr_prel_pg_hi21 l w m item r
  pub named : r.symbol ≡ Some i
  pub plain : NamesStrings l r → ⊥
  pub bits : HasImmediate w m item r AdrField n

-- the page of a slot, and the bits of its distance from the page of the global offset table; the page of an undefined weak symbol, at
-- whose own place S is; and that of another symbol, where S is the stub if the output uses it as the address, otherwise the value
pub record WrongPagesAreRefused : Type 0 where
  pub slot : (l : Layout) (w : World) (m : Memory) (item : Item) (r : InputRelocation) (i n : ℕ) → HoldsInData machine.AArch64 r_aarch64_adr_got_page l w m item r → r.symbol ≡ Some i → HasImmediate w m item r AdrField n → ((p : ℕ) → HasSlot AddressSlot l i p → n ≢ page_bits ((w.base + p) % 2 ^ 64) (place_at w item r.offset)) → ⊥
  pub from_table : (l : Layout) (w : World) (m : Memory) (item : Item) (r : InputRelocation) (i n : ℕ) → HoldsInData machine.AArch64 r_aarch64_ld64_gotpage_lo15 l w m item r → r.symbol ≡ Some i → HasImmediate w m item r Imm12Field n → ((p : ℕ) → HasSlot AddressSlot l i p → n ≢ ((w.base + p) % 2 ^ 64 + (2 ^ 64 - page_of (table_at l w))) % 2 ^ 64 / 2 ^ 3 % 2 ^ 12) → ⊥
  pub weak : (l : Layout) (w : World) (m : Memory) (item : Item) (r : InputRelocation) (i n : ℕ) → HoldsPage l w m item r i n → IsUndefinedWeak l i → n ≢ page_bits ((place_at w item r.offset + cast_unsigned w64 r.addend) % 2 ^ 64) (place_at w item r.offset) → ⊥
  pub stub : (l : Layout) (w : World) (m : Memory) (item : Item) (r : InputRelocation) (i n q : ℕ) → HoldsPage l w m item r i n → (IsUndefinedWeak l i → ⊥) → IsAddressStub l i q → ((p : ℕ) → IsAddressStub l i p → n ≢ page_bits (((w.base + p) % 2 ^ 64 + cast_unsigned w64 r.addend) % 2 ^ 64) (place_at w item r.offset)) → ⊥
  pub value : (l : Layout) (w : World) (m : Memory) (item : Item) (r : InputRelocation) (i n : ℕ) → HoldsPage l w m item r i n → (IsUndefinedWeak l i → ⊥) → ((p : ℕ) → IsAddressStub l i p → ⊥) → ((a : ℕ) → HasValue l w i a → n ≢ page_bits ((a + cast_unsigned w64 r.addend) % 2 ^ 64) (place_at w item r.offset)) → ⊥

-- without a symbol, a number of more than 32 bits in a field of 4 bytes
abbrev pub CutNumbersAreRefused : Type 0
CutNumbersAreRefused = (l : Layout) (w : World) (m : Memory) (item : Item) (r : InputRelocation) (n : ℕ) → HoldsInData machine.X86_64 r_x86_64_32 l w m item r → r.symbol ≡ None → number_in m (place_at w item r.offset) 4 ≡ Some n → n < 2 ^ 32 → 2 ^ 32 ≤ cast_unsigned w64 r.addend % 2 ^ 64 → ⊥

-- a word with another opcode than the input's, or other registers: its field has the bits 10 to 21
pub record OtherBitsAreRefused : Type 0 where
  pub opcode : (l : Layout) (w : World) (m : Memory) (item : Item) (r : InputRelocation) (n : ℕ) → HoldsInData machine.AArch64 r_aarch64_ldst32_abs_lo12_nc l w m item r → number_in m (place_at w item r.offset) 4 ≡ Some n → number (slice_range item.bytes r.offset (r.offset + 4)) / 2 ^ 22 ≢ n / 2 ^ 22 → ⊥
  pub registers : (l : Layout) (w : World) (m : Memory) (item : Item) (r : InputRelocation) (n : ℕ) → HoldsInData machine.AArch64 r_aarch64_ldst32_abs_lo12_nc l w m item r → number_in m (place_at w item r.offset) 4 ≡ Some n → number (slice_range item.bytes r.offset (r.offset + 4)) % 2 ^ 10 ≢ n % 2 ^ 10 → ⊥
