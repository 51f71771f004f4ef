-- The first row of a machine's table that applies.
--   first_standing stands rows   the first of these rows that applies
--   row_or_fault has by row           that row; refused if what it needs is missing
use Rattle.std.specs.Prelude.{Bool, List, [], ◌∷◌, Option, Some, None, Result, Ok, Err, if◌then◌else◌}
use Rattle.wild_relax.specs.declared.reference.UnknownSequence.{UnknownSequence}

abbrev pub first_standing : {R : Type 0} → (R → Bool) → List R → Option R
first_standing stands [] = None
first_standing stands (r ∷ rs) = if stands r then Some r else first_standing stands rs

abbrev pub row_or_fault : {R : Type 0} → (R → Bool) → (R → UnknownSequence) → Option R → Result (Option R) UnknownSequence
row_or_fault has by None = Ok None
row_or_fault has by (Some r) = if has r then Ok (Some r) else Err (by r)
