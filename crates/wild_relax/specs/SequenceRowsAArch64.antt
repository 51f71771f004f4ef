-- The rows of an AArch64 sequence are applied all together or not at all.
--   question_at q i         the same question for the relocation with that index
--   IsRowOfSequence q row s k    the row is that of word k of a sequence, and the row of each other word is chosen for its own relocation
--   RowsApplyTogether    this holds for each row that is chosen for a word
--   ChosenRowsApply          a chosen row applies and has all that it needs, and the bytes that it writes are within its word
use Rattle.std.specs.Prelude.{◌≡◌, ℕ, ◌+◌, ◌≤◌, true, false, length, Contains, Some, Ok, slice_get}
use Rattle.wild_relax.specs.declared.pattern.Sequence.{Sequence}
use Rattle.wild_relax.specs.declared.pattern.Pattern.TheVariants.{Among}
use Rattle.wild_relax.specs.declared.row.Row.{Row}
use Rattle.wild_relax.specs.Question.{Question, relocation_of}
use Rattle.wild_relax.specs.LinkedPattern.{pattern_of, pattern_size, keeps_bytes, fits_in}
use Rattle.wild_relax.specs.Pattern.{field_of}
use Rattle.wild_relax.specs.RowsAArch64.{rows_aarch64, applies_aarch64, has_its_words, chosen_row_aarch64}
use Rattle.wild_relax.specs.SequenceAArch64.{types_of, words_at, sequence_start, words_match}
use Rattle.wild_relax.specs.KeepAArch64.{Rewriting, rewritings}

-- the same for another relocation
abbrev pub question_at : Question → ℕ → Question
question_at q i = record {
  relocations = q.relocations;
  at = i;
  bytes = q.bytes;
  flags = q.flags;
  kind = q.kind;
  section_flags = q.section_flags;
  relax = q.relax;
  value = q.value;
  address = q.address;
}

-- the rows of a whole sequence are chosen for consecutive relocations, and its words are in the section
pub record IsRowOfSequence (q : Question) (row : Row) (s : Sequence) (k : ℕ) : Type 0 where
  pub whole : Rewriting
  pub known : Contains rewritings whole
  pub same : whole.sequence ≡ s
  pub first : ℕ
  pub place : q.at ≡ first + k
  pub here : slice_get whole.rows k ≡ Some row
  pub each : (j : ℕ) (other : Row) → slice_get whole.rows j ≡ Some other → chosen_row_aarch64 (question_at q (first + j)) ≡ Ok (Some other)
  pub words : words_match s (words_at q.bytes (sequence_start q k) (length (types_of s))) ≡ true

-- if a row is chosen for a word of a sequence, those of the other words are chosen for theirs
abbrev pub RowsApplyTogether : Type 0
RowsApplyTogether = (q : Question) (row : Row) (s : Sequence) (k : ℕ) → chosen_row_aarch64 q ≡ Ok (Some row) → pattern_of row ≡ Among s k → IsRowOfSequence q row s k

-- ---- one row

-- the row's pattern starts at the relocation and is in the section; if the row changes more than its field, the pattern is one
-- word
pub record RowApplies (q : Question) (row : Row) : Type 0 where
  pub listed : Contains rows_aarch64 row
  pub here : applies_aarch64 q row ≡ true
  pub whole : has_its_words q row ≡ true
  pub number : (relocation_of q).number ≡ row.number
  pub begins : field_of (pattern_of row) ≡ 0
  pub inside : (relocation_of q).offset + pattern_size row ≤ length q.bytes
  pub fits : keeps_bytes row ≡ false → (pattern_size row ≡ 4) × (fits_in row ≡ true)

abbrev pub ChosenRowsApply : Type 0
ChosenRowsApply = (q : Question) (row : Row) → chosen_row_aarch64 q ≡ Ok (Some row) → RowApplies q row
