-- The bytes that replace a rewritten instruction.
--   pattern_of row           all bytes of the input that belong to the row
--   IsChanging row           the row is the table's, and changes bytes around its field
--   fits_in row              the bytes that it writes are within the pattern
--   linked_pattern row info v old    the bytes in their place, with the field that holds a value
--   template_of row v old    the bytes that the row writes there
use Rattle.std.specs.Prelude.{◌≡◌, ℕ, ◌+◌, ◌-◌, ◌==◌, Bool, false, ◌&&◌, nat_le, Contains, List, [], length, slice_range}
use Rattle.wild_words.specs.Words.{place}
use Rattle.wild_reloc.specs.Field.{field_width, written}
use Rattle.wild_reloc.specs.declared.info.RelocationKindInfo.{RelocationKindInfo}
use Rattle.wild_relax.specs.declared.pattern.Pattern.{Pattern}
use Rattle.wild_relax.specs.declared.pattern.Pattern.TheVariants as pattern
use Rattle.wild_relax.specs.declared.row.Row.{Row}
use Rattle.wild_relax.specs.Pattern.{pattern_cells, field_of}
use Rattle.wild_relax.specs.Rows.{rows_x86_64}
use Rattle.wild_relax.specs.Rewrite.{rewritten_bytes}
use Rattle.wild_relax.specs.RewriteX86_64.{rewrite_of, info_written}

abbrev pub either_pattern : Pattern → Pattern → Pattern
either_pattern pattern.Nothing required_bytes = required_bytes
either_pattern needed required_bytes = needed

-- the bytes that the row needs; if there are none, the bytes without which it does not apply
abbrev pub pattern_of : Row → Pattern
pattern_of row = either_pattern row.needed row.required_bytes

-- the number of these bytes
abbrev pub pattern_size : Row → ℕ
pattern_size row = length (pattern_cells (pattern_of row))

-- the row changes only the bytes of its field
abbrev pub keeps_bytes : Row → Bool
keeps_bytes row = (rewrite_of row).size == 0

-- the row is in the table, and changes bytes around its field
pub record IsChanging (row : Row) : Type 0 where
  pub listed : Contains rows_x86_64 row
  pub changes : keeps_bytes row ≡ false

-- the offset of the field in the pattern after the rewrite
abbrev pub field_in : Row → ℕ
field_in row = field_of (pattern_of row) - (rewrite_of row).back + (rewrite_of row).field

-- the bytes written are within the pattern
abbrev pub fits_in : Row → Bool
fits_in row = nat_le (rewrite_of row).back (field_of (pattern_of row)) && nat_le (field_of (pattern_of row) - (rewrite_of row).back + (rewrite_of row).size) (pattern_size row)
    && nat_le (field_in row + field_width (info_written row)) (pattern_size row)

-- the bytes of the pattern after the rewrite, with the field written
abbrev pub linked_pattern : Row → RelocationKindInfo → ℕ → List ℕ → List ℕ
linked_pattern row info value old = place (field_in row) (written info value []) (rewritten_bytes (rewrite_of row) (field_of (pattern_of row)) old)

-- bytes with a value in a field
abbrev pub with_field : RelocationKindInfo → ℕ → ℕ → List ℕ → List ℕ
with_field info at value bytes = place at (written info value (slice_range bytes at (at + field_width info))) bytes

-- the bytes of the pattern after the row's rewrite, with the value in its field
unfoldable pub template_of : Row → ℕ → List ℕ → List ℕ
template_of row value old = with_field (info_written row) (field_in row) value (rewritten_bytes (rewrite_of row) (field_of (pattern_of row)) old)
