-- The rows of AArch64: those of one relocation type are all that can stand.
use Rattle.std.proofs.Common.{◌≡◌, ℕ}
use Rattle.std.specs.Prelude.{◌==◌}
use Rattle.std.proofs.lemmas.Bool.{and_parts}
use Rattle.wild_relax.specs.declared.row.Row.{Row}
use Rattle.wild_relax.specs.Question.{Question, relocation_of}
use Rattle.wild_relax.specs.FirstRow.{first_standing}
use Rattle.wild_relax.specs.RowsAArch64.{rows_aarch64, rows_with_aarch64, applies_aarch64, first_row_aarch64}
use Rattle.wild_relax.proofs.NumberLemmas.{first_of_kept, of_its_number}

pub standing_is : (q : Question) → first_standing (applies_aarch64 q) (rows_with_aarch64 (relocation_of q).number) ≡ first_row_aarch64 q
unfolding rows_with_aarch64 first_row_aarch64
standing_is q = first_of_kept (applies_aarch64 q) (λ (row : Row). (relocation_of q).number == row.number) rows_aarch64 (λ row h. of_its_number q row (and_parts _ _ h).0)
