-- Nothing of the plan of n groups moves: its sections stand as they are.
use Rattle.std.proofs.Common.{◌≡◌, ℕ, ◌+◌, ◌==◌, Bool, true, false, if◌then◌else◌, [], ◌∷◌, All, refl}
use Rattle.std.proofs.lemmas.List.Elements.{All-nil, All-cons, All-append}
use Rattle.wild_types.specs.declared.file.File.{File}
use Rattle.wild_types.specs.declared.file.FileRole.TheVariants as file_role
use Rattle.wild_types.specs.Kinds.{is_partial_link}
use Rattle.wild_placement.specs.Plain.{IsPlacedUnchanged, ArePlacedUnchanged}
use Rattle.wild_placement.specs.PlacedSections.{placed_section, placed_files}
use Rattle.wild_placement.proofs.PlainLemmas.{plain_section, plain_files}
use Rattle.wild_sample_layouts.specs.PlanOfGroups.{made_section, made_object, plain_file, made_files, made_group, plan_of_groups}

stands_made : (n i : ℕ) → IsPlacedUnchanged (made_section n i)
unfolding made_section
stands_made n i = record { frame = refl; table = refl; reversed = refl }

-- the output is an executable
pub whole_made : (n : ℕ) → is_partial_link (plan_of_groups n).kind ≡ false
unfolding plan_of_groups
whole_made n = refl

-- the code of a group stands as it is
pub section_stands : (n i : ℕ) (f : File) (at : ℕ) → placed_section (plan_of_groups n) f at (made_section n i) ≡ made_section n i
section_stands n i f at = plain_section (plan_of_groups n) f at (made_section n i) (whole_made n) (stands_made n i)

-- a file that may be there, beside the group's own
items_if : (b : Bool) (f : File) → ArePlacedUnchanged f → All ArePlacedUnchanged (if b then f ∷ [] else [])
items_if true f h = All-cons ArePlacedUnchanged f [] h (All-nil ArePlacedUnchanged)
items_if false f h = All-nil ArePlacedUnchanged

files_stand : (n i : ℕ) → All ArePlacedUnchanged (made_files n i)
files_stand n i =
    let own : ArePlacedUnchanged (made_object n i) = All-cons IsPlacedUnchanged (made_section n i) [] (stands_made n i) (All-nil IsPlacedUnchanged) in
    let first = items_if (i == 0) (plain_file file_role.Prelude) (All-nil IsPlacedUnchanged) in
    let last = items_if (i + 1 == n) (plain_file file_role.Epilogue) (All-nil IsPlacedUnchanged) in
    All-append ArePlacedUnchanged _ _ first (All-cons ArePlacedUnchanged (made_object n i) _ own last)

-- and so do the files of a group
pub placed_made_files : (n i : ℕ) → placed_files (plan_of_groups n) (made_group n i) ≡ made_files n i
placed_made_files n i = plain_files (plan_of_groups n) (made_group n i) (whole_made n) (files_stand n i)
