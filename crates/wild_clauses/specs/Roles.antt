-- The first group with a misplaced file, if the groups between the first and the last have none.
use Rattle.std.specs.Prelude.{ℕ, true, false, if◌then◌else◌, Option, Some, None}
use Rattle.wild_types.specs.declared.file.Group.{Group}
use Rattle.wild_types.specs.FilePlaces.{group_positions_fit}

-- the same for the first and the last group; the last one's place is given
abbrev pub ends_misplaced : Group → Group → ℕ → Option ℕ
ends_misplaced first last place =
    if group_positions_fit true false first.files
    then (if group_positions_fit false true last.files then None else Some place)
    else Some 0
