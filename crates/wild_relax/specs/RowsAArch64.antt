-- The rewrite rows of AArch64, and which of them applies to a relocation.
--   rows_aarch64              the rows, in the table's order
--   rows_with_aarch64 n       those of one relocation type
--   applies_aarch64 q row     the row applies
--   first_row_aarch64 q        the first row that applies
--   chosen_row_aarch64 q          that row, or why it is refused
use Rattle.std.specs.Prelude.{ℕ, ◌==◌, Bool, ◌&&◌, List, ◌++◌, Option, Result}
use Rattle.std.specs.List.{filter}
use Rattle.wild_relax.specs.declared.reference.UnknownSequence.{UnknownSequence}
use Rattle.wild_relax.specs.declared.row.Row.{Row}
use Rattle.wild_relax.specs.declared.table_aarch64.TheConstants.{WITH_PLT32, WITH_TSTBR14, WITH_CONDBR19, WITH_JUMP26, WITH_CALL26, WITH_TLSDESC_ADR_PAGE21, WITH_TLSDESC_LD64_LO12, WITH_TLSDESC_ADD_LO12, WITH_TLSDESC_CALL, WITH_TLSIE_ADR_GOTTPREL_PAGE21, WITH_TLSIE_LD64_GOTTPREL_LO12_NC, WITH_ADR_PREL_PG_HI21, WITH_ADD_ABS_LO12_NC}
use Rattle.wild_relax.specs.Question.{Question}
use Rattle.wild_relax.specs.FirstRow.{first_standing, row_or_fault}
use Rattle.wild_relax.specs.RowSequences.{has_its_sequence}
use Rattle.wild_relax.specs.Rows.{applies, unknown_sequence}
use Rattle.wild_relax.specs.SequenceAArch64.{has_around}

-- the rows in order, grouped by relocation type (aaelf64, "Relocation types", "Thread Local Storage", "Call and Jump
-- relocations")
unfoldable pub rows_aarch64 : List Row
rows_aarch64 =
    WITH_PLT32 ++ (WITH_TSTBR14 ++ (WITH_CONDBR19 ++ (WITH_JUMP26 ++ (WITH_CALL26 ++ (WITH_TLSDESC_ADR_PAGE21 ++ (WITH_TLSDESC_LD64_LO12 ++ (WITH_TLSDESC_ADD_LO12
    ++ (WITH_TLSDESC_CALL ++ (WITH_TLSIE_ADR_GOTTPREL_PAGE21 ++ (WITH_TLSIE_LD64_GOTTPREL_LO12_NC ++ (WITH_ADR_PREL_PG_HI21 ++ WITH_ADD_ABS_LO12_NC)))))))))))

-- the rows of a relocation type, in order
unfoldable pub rows_with_aarch64 : ℕ → List Row
rows_with_aarch64 number = filter (λ (row : Row). number == row.number) rows_aarch64

-- the conditions of every row, and the words and relocations around the one in question
abbrev pub applies_aarch64 : Question → Row → Bool
applies_aarch64 q row = applies q row && has_around q row.required_bytes

-- the same for what the row needs once it applies
abbrev pub has_its_words : Question → Row → Bool
has_its_words q row = has_its_sequence q row && has_around q row.needed

-- ---- the choice

-- the first row that applies
unfoldable pub first_row_aarch64 : Question → Option Row
first_row_aarch64 q = first_standing (applies_aarch64 q) rows_aarch64

-- the first row that applies; refused if its sequence is missing
unfoldable pub chosen_row_aarch64 : Question → Result (Option Row) UnknownSequence
chosen_row_aarch64 q = row_or_fault (has_its_words q) (unknown_sequence q) (first_row_aarch64 q)
