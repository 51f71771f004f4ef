-- The rewrite rows of x86-64, and which of them applies to a relocation.
--   rows_x86_64            the rows, in the table's order
--   applies q row          the row applies
--   first_row_x86_64 q      the first row that applies
--   chosen_row_x86_64 q        that row, or why it is refused
use Rattle.std.specs.Prelude.{◌==◌, Bool, not, ◌&&◌, ◌||◌, List, ◌++◌, Option, Result}
use Rattle.wild_types.specs.Kinds.{is_executable}
use Rattle.wild_types.specs.Lookups.{executable}
use Rattle.wild_relax.specs.declared.reference.UnknownSequence.{UnknownSequence}
use Rattle.wild_relax.specs.declared.row.Row.{Row}
use Rattle.wild_relax.specs.declared.table.TheConstants.{WITH_PC32, WITH_REX_GOTPCRELX, WITH_CODE_4_GOTPCRELX, WITH_GOTPCRELX, WITH_GOTPCREL, WITH_GOTTPOFF, WITH_CODE_4_GOTTPOFF, WITH_PLT32, WITH_PLTOFF64, WITH_TLSGD, WITH_TLSLD, WITH_GOTPC32_TLSDESC, WITH_CODE_4_GOTPC32_TLSDESC, WITH_TLSDESC_CALL}
use Rattle.wild_relax.specs.Question.{Question, relocation_of, minus_four}
use Rattle.wild_relax.specs.Pattern.{pattern_matches_before}
use Rattle.wild_relax.specs.RewriteX86_64.{info_written}
use Rattle.wild_relax.specs.FirstRow.{first_standing, row_or_fault}
use Rattle.wild_relax.specs.RowSymbols.{takes_value, takes_symbol, is_mandatory}
use Rattle.wild_relax.specs.RowSequences.{has_its_sequence}

-- the rows in order, grouped by relocation type (x86-64 psABI, "Linker Optimization"; "ELF Handling For Thread-Local Storage",
-- "Linker Relaxations")
unfoldable pub rows_x86_64 : List Row
rows_x86_64 =
    WITH_PC32 ++ (WITH_REX_GOTPCRELX ++ (WITH_CODE_4_GOTPCRELX ++ (WITH_GOTPCRELX ++ (WITH_GOTPCREL ++ (WITH_GOTTPOFF ++ (WITH_CODE_4_GOTTPOFF
    ++ (WITH_PLT32 ++ (WITH_PLTOFF64 ++ (WITH_TLSGD ++ (WITH_TLSLD ++ (WITH_GOTPC32_TLSDESC ++ (WITH_CODE_4_GOTPC32_TLSDESC ++ WITH_TLSDESC_CALL))))))))))))

-- Instructions are rewritten only in executable sections (gABI, SHF_EXECINSTR). Thread-local rewrites need an executable, because
-- only there the offset from the thread pointer is known.
unfoldable pub applies : Question → Row → Bool
applies q row = (relocation_of q).number == row.number && (q.relax || is_mandatory row.duty q) && (not row.in_code || executable q.section_flags) && takes_symbol row.symbol q
    && (not row.thread_local || is_executable q.kind) && takes_value row.value q
    && (not row.ends || minus_four (relocation_of q).addend) && (row.ignores_bytes || pattern_matches_before q.bytes (relocation_of q).offset row.required_bytes)

-- ---- the choice

-- the first row that applies
unfoldable pub first_row_x86_64 : Question → Option Row
first_row_x86_64 q = first_standing (applies q) rows_x86_64

-- a row whose sequence is missing: the relocation type of the input, and how the row's field would have been written
abbrev pub unknown_sequence : Question → Row → UnknownSequence
unknown_sequence q row = record { number = (relocation_of q).number; written = info_written row }

-- the first row that applies; refused if its sequence is missing
unfoldable pub chosen_row_x86_64 : Question → Result (Option Row) UnknownSequence
chosen_row_x86_64 q = row_or_fault (has_its_sequence q) (unknown_sequence q) (first_row_x86_64 q)
