-- Fields of relocations in memory.
--   formula_of m n       the formula of a relocation type of a machine
--   form_width form      the number of bytes of a field
--   FieldReads ..        the field in memory holds x, and its other bits are the input's
--   InNoField l item k   byte k of the item is in no field
use Rattle.std.specs.Prelude.{◌≡◌, ℕ, ◌+◌, ◌/◌, ◌<◌, ◌≤◌, ◌⊎◌, List, length, slice_index, slice_range, Option, Some, All}
use Rattle.wild_reloc.specs.Formula.{Form, NoField, Plain, Full, Bits, Formula, Reads, Keeps}
use Rattle.wild_reloc.specs.FormulaX86_64.{x86_64_formula}
use Rattle.wild_reloc.specs.FormulaAArch64.{aarch64_formula}
use Rattle.wild_types.specs.declared.kind.Machine.{Machine}
use Rattle.wild_types.specs.declared.kind.Machine.TheVariants as machine
use Rattle.wild_types.specs.declared.input.InputRelocation.{InputRelocation}
use Rattle.wild_types.specs.declared.layout.Layout.{Layout}
use Rattle.wild_loader.specs.declared.memory.Memory.{Memory}
use Rattle.wild_loader.specs.declared.world.World.{World}
use Rattle.wild_loader.specs.Memory.{Holds, byte_in}
use Rattle.wild_types.specs.Item.{Item}
use Rattle.wild_meaning.specs.Item.{place_at}

-- the formula of a relocation type (x86-64 psABI, "Relocation Types"; aaelf64, "Relocation operations")
abbrev pub formula_of : Machine → ℕ → Option Formula
formula_of machine.X86_64 n = x86_64_formula n
formula_of machine.AArch64 n = aarch64_formula n

-- the number of bytes of a field; a field in an instruction has four
abbrev pub form_width : Form → ℕ
form_width NoField = 0
form_width (Plain bits reading) = bits / 8
form_width Full = 8
form_width (Bits field high low check unit) = 4

-- the field in memory holds x, and the bits outside the field are those of the input's bytes
pub record FieldReads (w : World) (m : Memory) (item : Item) (r : InputRelocation) (form : Form) (x : ℕ) : Type 0 where
  pub bytes : List ℕ
  pub wide : length bytes ≡ form_width form
  pub held : Holds m (place_at w item r.offset) bytes
  pub reads : Reads form bytes x
  pub keeps : Keeps form (slice_range item.bytes r.offset (r.offset + form_width form)) bytes

-- the byte is in no field of the item's relocations
abbrev pub InNoField : Layout → Item → ℕ → Type 0
InNoField l item k = All (λ (r : InputRelocation). (f : Formula) → formula_of l.machine r.number ≡ Some f → (k < r.offset) ⊎ (r.offset + form_width f.form ≤ k)) item.relocations

-- memory has the input's byte
abbrev pub IsInputByte : World → Memory → Item → ℕ → Type 0
IsInputByte w m item k = byte_in m (place_at w item k) ≡ Some (slice_index item.bytes k)
