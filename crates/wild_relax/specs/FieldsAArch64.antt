-- The fields of AArch64 instructions, as relocation types write them and as code is read.
--   FieldsAgree       both definitions have the same fields
--   TypesHaveForms    each relocation type that fills an instruction has forms of words with that field
--   number_of part    the relocation type by which a part of a rewrite is written
--   value_of part     the value that it writes
--   PartsAreFields    the parts are what these relocation types write
use Rattle.std.specs.Prelude.{◌≡◌, ℕ, ◌^◌, ◌<◌, Bool, true, false, List, [], ◌∷◌, Option, Some, None, option_and_then}
use Rattle.std.specs.List.{list_all}
use Rattle.wild_words.specs.Words.{word}
use Rattle.wild_records.specs.Abi.Relocation as abi
use Rattle.wild_reloc.specs.Field.{written}
use Rattle.wild_reloc.specs.Formula as formula
use Rattle.wild_reloc.specs.FormulaAArch64.{aarch64_formulas}
use Rattle.wild_reloc.specs.Immediate as writer
use Rattle.wild_reloc.specs.TableAArch64.{aarch64_row}
use Rattle.wild_reloc.specs.declared.info.RelocationKindInfo.{RelocationKindInfo}
use Rattle.wild_reloc.specs.declared.instruction.AArch64Instruction.{AArch64Instruction}
use Rattle.wild_reloc.specs.declared.instruction.AArch64Instruction.TheVariants as instruction
use Rattle.wild_aarch64.specs.Immediate.{Field, Imm12, Imm14, Imm16, Imm19, Imm21, Imm26}
use Rattle.wild_aarch64.specs.Immediate as judge
use Rattle.wild_aarch64.specs.Slice.{Form}
use Rattle.wild_aarch64.specs.FilledForms.{forms_filled}
use Rattle.wild_aarch64.specs.Machine.{page}
use Rattle.wild_aarch64.specs.Row.{Part, Kept, HighOffset, LowOffset, SlotPage, SlotLow, Distance, distance, filled}

-- ---- fields

-- the field of an instruction
abbrev pub field_of : AArch64Instruction → Field
field_of instruction.Adr = Imm21
field_of instruction.Imm12 = Imm12
field_of instruction.Imm14 = Imm14
field_of instruction.Imm16 = Imm16
field_of instruction.Imm19 = Imm19
field_of instruction.Imm26 = Imm26

abbrev pub FieldsAgree : Type 0
FieldsAgree = (i : AArch64Instruction) (bits w : ℕ) → writer.word_with_immediate i bits w ≡ judge.word_with_immediate (field_of i) bits w

-- ---- forms

-- the field from which a formula reads its value
abbrev pub read_field : formula.Field → Field
read_field formula.AdrField = Imm21
read_field formula.Imm12Field = Imm12
read_field formula.Imm14Field = Imm14
read_field formula.Imm16Field = Imm16
read_field formula.Imm19Field = Imm19
read_field formula.Imm26Field = Imm26

-- the field of an instruction, where the formula has one
abbrev pub filled_field : formula.Form → Option Field
filled_field (formula.Bits field high low check multiple) = Some (read_field field)
filled_field other = None

abbrev pub same_field : Field → Field → Bool
same_field Imm12 Imm12 = true
same_field Imm14 Imm14 = true
same_field Imm16 Imm16 = true
same_field Imm19 Imm19 = true
same_field Imm21 Imm21 = true
same_field Imm26 Imm26 = true
same_field f g = false

-- there are forms exactly if the relocation type fills an instruction, and each has its immediate in that field
abbrev pub have_field : Option Field → List Form → Bool
have_field None [] = true
have_field None (f ∷ fs) = false
have_field (Some field) [] = false
have_field (Some field) (f ∷ fs) = list_all (λ (g : Form). same_field g.field field) (f ∷ fs)

abbrev pub TypesHaveForms : Type 0
TypesHaveForms = list_all (λ (e : ℕ × formula.Formula). have_field (filled_field e.1.form) (forms_filled e.0)) aarch64_formulas ≡ true

-- ---- parts of rewrites

-- TLSLE_MOVW_TPREL_G1 and G0_NC, TLSIE_ADR_GOTTPREL_PAGE21 and LD64_GOTTPREL_LO12_NC, ADR_PREL_LO21 (aaelf64, "Relocation types")
abbrev pub number_of : Part → Option ℕ
number_of Kept = None
number_of HighOffset = Some abi.r_aarch64_tlsle_movw_tprel_g1
number_of LowOffset = Some abi.r_aarch64_tlsle_movw_tprel_g0_nc
number_of SlotPage = Some abi.r_aarch64_tlsie_adr_gottprel_page21
number_of SlotLow = Some abi.r_aarch64_tlsie_ld64_gottprel_lo12_nc
number_of Distance = Some abi.r_aarch64_adr_prel_lo21

-- for a word at address a; x is a thread-pointer offset, a slot's address or an address
abbrev pub value_of : Part → ℕ → ℕ → ℕ
value_of Kept a x = 0
value_of HighOffset a x = x
value_of LowOffset a x = x
value_of SlotPage a x = distance (page a) (page x)
value_of SlotLow a x = x
value_of Distance a x = distance a x

abbrev pub written_by : Option RelocationKindInfo → ℕ → List ℕ → List ℕ
written_by None v old = old
written_by (Some info) v old = written info v old

-- the bytes of a word with the value in the field of that relocation type
abbrev pub PartsAreFields : Type 0
PartsAreFields = (part : Part) (a x w : ℕ) → w < 2 ^ 32 → written_by (option_and_then aarch64_row (number_of part)) (value_of part a x) (word 4 w) ≡ word 4 (filled part a x w)
