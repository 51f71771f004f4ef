-- The rows of one relocation type are all that can stand.
use Rattle.std.proofs.Common.{◌≡◌, Bool, true, false, List, [], ◌∷◌, refl}
use Rattle.std.specs.Prelude.{Some, cond, ◌==◌}
use Rattle.std.specs.List.{filter}
use Rattle.std.proofs.lemmas.Bool.{and_parts}
use Rattle.wild_relax.specs.declared.row.Row.{Row}
use Rattle.wild_relax.specs.Question.{Question, relocation_of}
use Rattle.wild_relax.specs.FirstRow.{first_standing}
use Rattle.wild_relax.specs.Rows.{rows_x86_64, applies, first_row_x86_64}
use Rattle.wild_relax.specs.RowsOfType.{rows_with}

-- a row that does not pass the test does not stand
kept_or_not : {R : Type 0} (stands p : R → Bool) (r : R) (rs : List R) (s t : Bool) → stands r ≡ s → p r ≡ t → (s ≡ true → t ≡ true) → first_standing stands (filter p rs) ≡ first_standing stands rs
    → first_standing stands (cond t (r ∷ filter p rs) (filter p rs)) ≡ cond s (Some r) (first_standing stands rs)
kept_or_not stands p r rs true true hs ht passes same = rw hs refl
kept_or_not stands p r rs false true hs ht passes same = rw hs same
kept_or_not stands p r rs true false hs ht passes same = absurd (cc (passes refl))
kept_or_not stands p r rs false false hs ht passes same = same

pub first_of_kept : {R : Type 0} (stands p : R → Bool) (rs : List R) → ((r : R) → stands r ≡ true → p r ≡ true) → first_standing stands (filter p rs) ≡ first_standing stands rs
first_of_kept stands p [] passes = refl
first_of_kept stands p (r ∷ rs) passes = kept_or_not stands p r rs (stands r) (p r) refl refl (passes r) (first_of_kept stands p rs passes)

-- a row of another type does not stand
pub of_its_number : (q : Question) (row : Row) → applies q row ≡ true → ((relocation_of q).number == row.number) ≡ true
unfolding applies
of_its_number q row h =
    let addend = and_parts _ _ (and_parts _ _ h).0 in
    let value = and_parts _ _ addend.0 in
    let thread = and_parts _ _ value.0 in
    let symbol = and_parts _ _ thread.0 in
    let section = and_parts _ _ symbol.0 in
    (and_parts _ _ section.0).0

pub standing_is : (q : Question) → first_standing (applies q) (rows_with (relocation_of q).number) ≡ first_row_x86_64 q
unfolding rows_with first_row_x86_64
standing_is q = first_of_kept (applies q) (λ (row : Row). (relocation_of q).number == row.number) rows_x86_64 (of_its_number q)
