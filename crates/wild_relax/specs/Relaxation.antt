-- The rewrite that applies to a relocation.
--   relaxation_x86_64 q, relaxation_aarch64 q   the rewrite of each machine
--   chosen_row_of m q         its row, for a given machine
use Rattle.std.specs.Prelude.{◌≡◌, refl, Bool, Option, Some, None, Result, Ok, Err}
use Rattle.wild_types.specs.declared.kind.Machine.{Machine}
use Rattle.wild_types.specs.declared.kind.Machine.TheVariants as machine
use Rattle.wild_relax.specs.declared.reference.UnknownSequence.{UnknownSequence}
use Rattle.wild_relax.specs.declared.row.Row.{Row}
use Rattle.wild_relax.specs.declared.aarch64.ElfAArch64Relaxation.{ElfAArch64Relaxation}
use Rattle.wild_relax.specs.declared.x86_64.ElfX86_64Relaxation.{ElfX86_64Relaxation}
use Rattle.wild_relax.specs.Question.{Question}
use Rattle.wild_relax.specs.Rows.{chosen_row_x86_64}
use Rattle.wild_relax.specs.RowsAArch64.{chosen_row_aarch64}
use Rattle.wild_relax.specs.RowSymbols.{is_mandatory}

-- the row, and whether it is applied even if rewriting is off
abbrev pub with_duty : {R : Type 0} → (Row → Bool → R) → Question → Result (Option Row) UnknownSequence → Result (Option R) UnknownSequence
with_duty make q (Ok None) = Ok None
with_duty make q (Ok (Some row)) = Ok (Some (make row (is_mandatory row.duty q)))
with_duty make q (Err e) = Err e

abbrev pub of_x86_64 : Row → Bool → ElfX86_64Relaxation
of_x86_64 row mandatory = record { row = row; mandatory = mandatory }

abbrev pub of_aarch64 : Row → Bool → ElfAArch64Relaxation
of_aarch64 row mandatory = record { row = row; mandatory = mandatory }

-- the first row that applies, as a rewrite
abbrev pub relaxation_x86_64 : Question → Result (Option ElfX86_64Relaxation) UnknownSequence
relaxation_x86_64 q = with_duty of_x86_64 q (chosen_row_x86_64 q)

abbrev pub relaxation_aarch64 : Question → Result (Option ElfAArch64Relaxation) UnknownSequence
relaxation_aarch64 q = with_duty of_aarch64 q (chosen_row_aarch64 q)

-- ---- by machine

-- the rows of rewrites
abbrev pub rows_of : {R : Type 0} → (R → Row) → Result (Option R) UnknownSequence → Result (Option Row) UnknownSequence
rows_of row (Ok None) = Ok None
rows_of row (Ok (Some r)) = Ok (Some (row r))
rows_of row (Err e) = Err e

-- the first row that applies to a relocation, or why it is refused
abbrev pub chosen_row_of : Machine → Question → Result (Option Row) UnknownSequence
chosen_row_of machine.X86_64 q = chosen_row_x86_64 q
chosen_row_of machine.AArch64 q = chosen_row_aarch64 q

-- the flag does not change the row
pub rows_with_duty : (q : Question) (found : Result (Option Row) UnknownSequence) → rows_of (λ (r : ElfX86_64Relaxation). r.row) (with_duty of_x86_64 q found) ≡ found
rows_with_duty q (Ok None) = refl
rows_with_duty q (Ok (Some row)) = refl
rows_with_duty q (Err e) = refl

pub words_with_duty : (q : Question) (found : Result (Option Row) UnknownSequence) → rows_of (λ (r : ElfAArch64Relaxation). r.row) (with_duty of_aarch64 q found) ≡ found
words_with_duty q (Ok None) = refl
words_with_duty q (Ok (Some row)) = refl
words_with_duty q (Err e) = refl
