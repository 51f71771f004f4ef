-- The law of the rewrites of x86-64: the bytes written in place of an instruction have the effect that it demands of its operand.
--   FieldIsRight w read p v value   with `value` in the field at p, the operand has the value v
--   RowsHaveTypes            the rows of the table write by relocation types
--   RowsKeep                 the law
use Rattle.std.specs.Prelude.{◌≡◌, ℕ, ◌+◌, ◌-◌, ◌%◌, ◌^◌, ◌<◌, true, List, length, Contains, Option, Some}
use Rattle.wild_reloc.specs.Field.{allows}
use Rattle.wild_reloc.specs.TableX86_64.{x86_64_row}
use Rattle.wild_reloc.specs.declared.info.RelocationKindInfo.{RelocationKindInfo}
use Rattle.wild_loader.specs.declared.instruction.Operand.TheVariants.{Number, Word}
use Rattle.wild_loader.specs.declared.instruction.Deed.TheVariants.{Nothing}
use Rattle.wild_loader.specs.Instruction.{Reader, Effect, sum_64}
use Rattle.wild_loader.specs.InstructionX86_64.{effect_x86_64, demand_x86_64}
use Rattle.wild_relax.specs.declared.pattern.Cell.{Cell}
use Rattle.wild_relax.specs.declared.row.Made.{Made}
use Rattle.wild_relax.specs.declared.row.Made.TheVariants.{Nop}
use Rattle.wild_relax.specs.declared.row.Written.{Written}
use Rattle.wild_relax.specs.declared.row.Written.TheVariants as written
use Rattle.wild_relax.specs.declared.row.Row.{Row}
use Rattle.wild_relax.specs.Pattern.{pattern_cells, matches_cells}
use Rattle.wild_types.specs.declared.kind.Machine.TheVariants.{X86_64}
use Rattle.wild_types.specs.Rows.{row_of}
use Rattle.wild_relax.specs.Rows.{rows_x86_64}
use Rattle.wild_relax.specs.RewriteX86_64.{number_written, info_written, rewrite_of}
use Rattle.wild_relax.specs.LinkedPattern.{pattern_of, IsChanging, field_in, linked_pattern}

-- the bytes are that pattern
pub record IsWhole (cells : List Cell) (bs : List ℕ) : Type 0 where
  pub long : length bs ≡ length cells
  pub same : matches_cells cells bs ≡ true

-- a number reads as itself
abbrev pub ReadsNumbers : Reader → Type 0
ReadsNumbers read = (n : ℕ) → read (Number n) ≡ Some n

-- from the end of a field of four bytes at p to v: S - 4 - P
abbrev pub distance : (v p : ℕ) → ℕ
distance v p = (v + (2 ^ 64 - 4) + (2 ^ 64 - p % 2 ^ 64)) % 2 ^ 64

-- The meaning of the field depends on its relocation type: the distance to v, v itself, or the distance to a slot that holds v.
-- Without a field the operand is the start of the output's own thread-local data, which is at offset 0 of that data.
abbrev pub FieldIsRight : Written → Reader → ℕ → ℕ → ℕ → Type 0
FieldIsRight written.Pc32 read place v value = value ≡ distance v place
FieldIsRight written.Plt32 read place v value = value ≡ distance v place
FieldIsRight written.GotTpOff read place v value = read (Word (sum_64 (place + 4) value)) ≡ Some v
FieldIsRight written.Nothing read place v value = v ≡ 0
FieldIsRight other read place v value = value ≡ v

-- no effect
abbrev pub no_effect : Effect
no_effect = record { deed = Nothing; width = 64; value = 0 }

-- the effect of the input's bytes if their operand has the value v; a call through a descriptor has none, because the
-- descriptor's value is already the offset
abbrev pub demanded : Made → ℕ → ℕ → List ℕ → Option Effect
demanded Nop v a old = Some no_effect
demanded other v a old = demand_x86_64 v a old

abbrev pub Keeps : Row → RelocationKindInfo → Reader → ℕ → ℕ → ℕ → List ℕ → Type 0
Keeps row info read a v value old = effect_x86_64 read a (linked_pattern row info value old) ≡ demanded row.made v a old

-- a value in range for the field at that place, with which the operand is right
pub record IsField (w : Written) (info : RelocationKindInfo) (read : Reader) (place v value : ℕ) : Type 0 where
  pub row_of : Some info ≡ x86_64_row (number_written w)
  pub allowed : allows info value ≡ true
  pub small : value < 2 ^ 64
  pub operand : v < 2 ^ 64
  pub numbers : ReadsNumbers read
  pub lands : FieldIsRight w read place v value

-- the field of each row is written as the machine's relocation table has that relocation type
abbrev pub RowsHaveTypes : Type 0
RowsHaveTypes = (row : Row) → Contains rows_x86_64 row → row_of X86_64 (rewrite_of row).number ≡ Some (info_written row)

-- at any address a and for any operand
abbrev pub RowsKeep : Type 0
RowsKeep = (row : Row) (info : RelocationKindInfo) (read : Reader) (a v value : ℕ) (old : List ℕ) → IsChanging row → IsWhole (pattern_cells (pattern_of row)) old
    → IsField row.written info read (a + field_in row) v value → Keeps row info read a v value old
