-- A rewrite in its section.
--   window q row        the input bytes that the row's pattern covers
--   ChosenRowsApply         a chosen row applies and has all that it needs
--   ChosenPatternsArePresent      if a row is chosen, its whole pattern is in the input
--   SectionsAreLinked   the rewrite and the field, written into the section, put `linked_pattern` in place of the pattern
use Rattle.std.specs.Prelude.{◌≡◌, ℕ, ◌+◌, ◌-◌, ◌≤◌, true, not, ◌||◌, List, [], length, slice_range, Some, Ok, Contains}
use Rattle.wild_words.specs.Words.{place}
use Rattle.wild_reloc.specs.Field.{written}
use Rattle.wild_reloc.specs.TableX86_64.{x86_64_row}
use Rattle.wild_reloc.specs.declared.info.RelocationKindInfo.{RelocationKindInfo}
use Rattle.wild_relax.specs.declared.row.Row.{Row}
use Rattle.wild_types.specs.Kinds.{is_executable}
use Rattle.wild_relax.specs.Question.{Question, relocation_of, minus_four}
use Rattle.wild_relax.specs.Pattern.{pattern_cells, field_of}
use Rattle.wild_types.specs.Lookups.{executable}
use Rattle.wild_relax.specs.RowSymbols.{takes_symbol, takes_value}
use Rattle.wild_relax.specs.RowSequences.{has_partner, has_its_sequence}
use Rattle.wild_relax.specs.Rows.{rows_x86_64, applies, chosen_row_x86_64}
use Rattle.wild_relax.specs.Rewrite.{rewritten_bytes}
use Rattle.wild_relax.specs.RewriteX86_64.{rewrite_of}
use Rattle.wild_relax.specs.LinkedPattern.{pattern_of, pattern_size, IsChanging, linked_pattern}
use Rattle.wild_relax.specs.KeepX86_64.{IsWhole}

-- the start of the row's pattern
abbrev pub start_of : Question → Row → ℕ
start_of q row = (relocation_of q).offset - field_of (pattern_of row)

abbrev pub window : Question → Row → List ℕ
window q row = slice_range q.bytes (start_of q row) (start_of q row + length (pattern_cells (pattern_of row)))

-- the row's conditions on the symbol, the section, the output, the addend and the next relocation
pub record MeetsConditions (q : Question) (row : Row) : Type 0 where
  pub symbol : takes_symbol row.symbol q ≡ true
  pub section : (not row.in_code || executable q.section_flags) ≡ true
  pub value : takes_value row.value q ≡ true
  pub thread : (not row.thread_local || is_executable q.kind) ≡ true
  pub addend : (not (row.ends || row.needs_end) || minus_four (relocation_of q).addend) ≡ true
  pub partner : has_partner row q ≡ true

-- the row applies, it is of the relocation's type, and its pattern is in the section
pub record RowApplies (q : Question) (row : Row) : Type 0 where
  pub here : applies q row ≡ true
  pub sequence : has_its_sequence q row ≡ true
  pub number : (relocation_of q).number ≡ row.number
  pub taken : MeetsConditions q row
  pub before : field_of (pattern_of row) ≤ (relocation_of q).offset
  pub inside : start_of q row + pattern_size row ≤ length q.bytes
  pub listed : Contains rows_x86_64 row

abbrev pub ChosenRowsApply : Type 0
ChosenRowsApply = (q : Question) (row : Row) → chosen_row_x86_64 q ≡ Ok (Some row) → RowApplies q row

abbrev pub ChosenPatternsArePresent : Type 0
ChosenPatternsArePresent = (q : Question) (row : Row) → chosen_row_x86_64 q ≡ Ok (Some row) → IsWhole (pattern_cells (pattern_of row)) (window q row)

-- the offset of the field after the rewrite
abbrev pub field_after : Question → Row → ℕ
field_after q row = (relocation_of q).offset - (rewrite_of row).back + (rewrite_of row).field

abbrev pub SectionsAreLinked : Type 0
SectionsAreLinked = (q : Question) (row : Row) (info : RelocationKindInfo) (value : ℕ) → chosen_row_x86_64 q ≡ Ok (Some row) → IsChanging row → Some info ≡ x86_64_row (rewrite_of row).number
    → place (field_after q row) (written info value []) (rewritten_bytes (rewrite_of row) (relocation_of q).offset q.bytes) ≡ place (start_of q row) (linked_pattern row info value (window q row)) q.bytes
