-- The group's share of a part, and the positions of the first and the last file.
--   given part g          the group's share of a part, in bytes
--   first_misplaced_file ..     the first group with a file in a wrong position
use Rattle.std.specs.Prelude.{ℕ, ◌+◌, ◌==◌, Bool, true, false, not, ◌&&◌, if◌then◌else◌, List, [], ◌∷◌, length, Option, Some, None, slice_index_or}
use Rattle.wild_types.specs.declared.file.File.{File}
use Rattle.wild_types.specs.declared.file.Group.{Group}
use Rattle.wild_types.specs.FileRoles.{is_prelude, is_epilogue}

-- the group's share of a part, in bytes
abbrev pub given : ℕ → Group → ℕ
given part g = slice_index_or g.part_sizes part 0

abbrev pub bool_eq : Bool → Bool → Bool
bool_eq true b = b
bool_eq false b = not b

-- the file is the prelude exactly if it is the first of all, the epilogue exactly if it is the last
abbrev pub file_position_fits : Bool → Bool → File → Bool
file_position_fits first last f = bool_eq (is_prelude f.role) first && bool_eq (is_epilogue f.role) last

-- the same for files after the first of all; the flag says whether the last one is also the last of all
abbrev pub later_positions_fit : Bool → List File → Bool
later_positions_fit last [] = true
later_positions_fit last (f ∷ fs) = file_position_fits false (last && length fs == 0) f && later_positions_fit last fs

-- the same for the files of a group; the flags say whether it is the first group, and whether it is the last
abbrev pub group_positions_fit : Bool → Bool → List File → Bool
group_positions_fit first last [] = not first && not last
group_positions_fit first last (f ∷ fs) = file_position_fits first (last && length fs == 0) f && later_positions_fit last fs

-- the first group with a file in a wrong position
abbrev pub first_misplaced_file : Bool → ℕ → List Group → Option ℕ
first_misplaced_file first i [] = None
first_misplaced_file first i (g ∷ gs) = if group_positions_fit first (length gs == 0) g.files then first_misplaced_file false (i + 1) gs else Some i
