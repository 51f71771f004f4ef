-- The rows of the relocation types, in the table of each machine.
--   row_of m n     the row of a relocation type; none if the table does not have it
--   row_width row  the width of its field in bytes; 0 without a row
use Rattle.std.specs.Prelude.{ℕ, Option, Some, None}
use Rattle.wild_types.specs.declared.kind.Machine.{Machine}
use Rattle.wild_reloc.specs.Field.{field_width}
use Rattle.wild_reloc.specs.TableX86_64.{x86_64_row}
use Rattle.wild_reloc.specs.TableAArch64.{aarch64_row}
use Rattle.wild_reloc.specs.declared.info.RelocationKindInfo.{RelocationKindInfo}
use Rattle.wild_types.specs.declared.kind.Machine.TheVariants as machine

-- the row of a relocation type (x86-64 psABI, "Relocation Types"; aaelf64, "Relocation types")
unfoldable pub row_of : Machine → ℕ → Option RelocationKindInfo
row_of machine.X86_64 n = x86_64_row n
row_of machine.AArch64 n = aarch64_row n

-- the width of a row's field in bytes; 0 without a row
abbrev pub row_width : Option RelocationKindInfo → ℕ
row_width None = 0
row_width (Some row) = field_width row

-- the width of the field that a relocation of that type writes, in bytes; 0 if it writes none, or has no row
abbrev pub field_bytes : Machine → ℕ → ℕ
field_bytes m number = row_width (row_of m number)
