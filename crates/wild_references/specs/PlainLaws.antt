-- Instructions in the memory of any image, whoever wrote it.
--   IsFilledPlainly ..     each field of an instruction has its formula's value, and its own bytes are the input's
--   PlainInstructionsDo    then the instruction has the effect that it requires
--   RowsHaveFormulas       each row of the tables has a formula, with a field as wide, and agrees with it
--   RawValuesAreAddresses  the layout's address of a symbol is that symbol's
use Rattle.std.specs.Prelude.{◌≡◌, ℕ, ◌+◌, ◌%◌, List, Some}
use Rattle.wild_reloc.specs.declared.info.RelocationKindInfo.{RelocationKindInfo}
use Rattle.wild_reloc.specs.declared.expression.Class.TheVariants as class
use Rattle.wild_reloc.specs.Expression.{expression_of}
use Rattle.wild_reloc.specs.Formula.{Form, Formula, Reads}
use Rattle.wild_reloc.specs.Field.{field_width}
use Rattle.wild_reloc.specs.Agreement.{AgreesWith}
use Rattle.wild_types.specs.declared.kind.Machine.{Machine}
use Rattle.wild_types.specs.declared.input.InputRelocation.{InputRelocation}
use Rattle.wild_types.specs.declared.layout.Layout.{Layout}
use Rattle.wild_types.specs.Addresses.{raw_value}
use Rattle.wild_types.specs.Item.{Item}
use Rattle.wild_types.specs.Rows.{row_of}
use Rattle.wild_loader.specs.declared.memory.Memory.{Memory}
use Rattle.wild_loader.specs.declared.world.World.{World}
use Rattle.wild_meaning.specs.Value.{HasRaw}
use Rattle.wild_meaning.specs.Item.{IsReference}
use Rattle.wild_meaning.specs.Field.{formula_of, form_width, IsInputByte}
use Rattle.wild_meaning.specs.Sequence.{Instruction, IsOwnByte}
use Rattle.wild_meaning.specs.Template.{IsTemplate, reads, DoesDemanded}
use Rattle.wild_meaning.specs.Reference.{MustHold, UsesOwnSymbolOnly}
use Rattle.wild_references.specs.Laws.{FieldHolds}

-- each field of an instruction has its formula's value, and its own bytes are the input's
pub record IsFilledPlainly (l : Layout) (w : World) (m : Memory) (item : Item) (start : ℕ) (o : Instruction) (first : InputRelocation) : Type 0 where
  pub fields : (r : InputRelocation) → IsReference item r → IsTemplate l item r start o first → FieldHolds l w m item r
  pub own : (k : ℕ) → IsOwnByte o k → IsInputByte w m item (start + k)

-- then the instruction has the effect that it requires
abbrev pub PlainInstructionsDo : Type 0
PlainInstructionsDo = (l : Layout) (w : World) (m : Memory) (item : Item) (r : InputRelocation) → IsReference item r → MustHold l w item r → (UsesOwnSymbolOnly l item r → ⊥) → (start : ℕ) (o : Instruction) (first : InputRelocation) → IsTemplate l item r start o first
    → IsFilledPlainly l w m item start o first → DoesDemanded (reads w m) l w m item first start o

-- if the field reads as a number, it reads as each number with the same bits below its page of 4096 bytes
abbrev pub ReadsLowBits : Form → Type 0
ReadsLowBits form = (bytes : List ℕ) (v x : ℕ) → Reads form bytes v → v % 4096 ≡ x % 4096 → Reads form bytes x

-- The row of a relocation type has a formula, with a field as wide, and agrees with it. A field with only the offset of an address in
-- its page reads as each number with that offset.
pub record HasFormula (m : Machine) (n : ℕ) (row : RelocationKindInfo) : Type 0 where
  pub formula : Formula
  pub known : formula_of m n ≡ Some formula
  pub width : form_width formula.form ≡ field_width row
  pub agrees : AgreesWith row formula
  pub low : (expression_of row.kind).class ≡ class.Part → ReadsLowBits formula.form

abbrev pub RowsHaveFormulas : Type 0
RowsHaveFormulas = (m : Machine) (n : ℕ) (row : RelocationKindInfo) → row_of m n ≡ Some row → HasFormula m n row

-- the layout's address of a symbol is that symbol's
abbrev pub RawValuesAreAddresses : Type 0
RawValuesAreAddresses = (l : Layout) (i a : ℕ) → raw_value l i ≡ Some a → HasRaw l i a
