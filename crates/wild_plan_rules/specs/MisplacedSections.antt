-- The first group with a misplaced input section, part by part.
--   earlier a b                       the smaller of two places, if both exist; else the one that does
--   part_misplaced l part start i gs  the first group with a misplaced input section of that part
--   misplaced l part starts i gs      the same for all parts from number part on
--   all_placed l part ends cursors s  the cursors of those parts after an input section; none if the section is
--                                     misplaced
--   bytes_placed part ends cursors s  the same for an input section that has bytes
--   misplaced_place l                 the group of the first misplaced input section: of a sorted one, its own group
use Rattle.std.specs.Prelude.{ℕ, ◌+◌, ◌-◌, ◌==◌, ◌&&◌, min, nat_le, if◌then◌else◌, List, [], ◌∷◌, length, map, Option, Some, None, option_map, slice_get}
use Rattle.wild_types.specs.declared.part.Part.{Part}
use Rattle.wild_types.specs.declared.input.InputSection.{InputSection}
use Rattle.wild_types.specs.declared.file.File.{File}
use Rattle.wild_types.specs.declared.file.Group.{Group}
use Rattle.wild_types.specs.declared.layout.SortedSection.{SortedSection}
use Rattle.wild_types.specs.declared.layout.Layout.{Layout}
use Rattle.wild_types.specs.FilePlaces.{given}
use Rattle.wild_placement.specs.PlacedSections.{Input, sorted_input}
use Rattle.wild_plan_rules.specs.Contents.{addresses, ends_of, part_placed, parts_placed, placed_in, section_misplaced}
use Rattle.wild_plan_rules.specs.Thunks.{sections_in_ranges}
use Rattle.wild_types.specs.Lists.{through}

-- the smaller of two places, if both exist; else the one that does
abbrev pub earlier : Option ℕ → Option ℕ → Option ℕ
earlier None b = b
earlier (Some i) None = Some i
earlier (Some i) (Some j) = Some (min i j)

-- the first group with a misplaced input section of that part
abbrev pub part_misplaced : Layout → ℕ → ℕ → ℕ → List Group → Option ℕ
part_misplaced l part start i [] = None
part_misplaced l part start i (g ∷ gs) = if part_placed l part start (start + given part g) g then part_misplaced l part (start + given part g) (i + 1) gs else Some i

-- the same for all parts from number part on
abbrev pub misplaced : Layout → ℕ → List ℕ → ℕ → List Group → Option ℕ
misplaced l part starts i [] = None
misplaced l part starts i (g ∷ gs) = if parts_placed l g part starts then misplaced l part (ends_of g part starts) (i + 1) gs else Some i

abbrev pub both : Option ℕ → Option (List ℕ) → Option (List ℕ)
both None bs = None
both (Some a) None = None
both (Some a) (Some bs) = Some (a ∷ bs)

-- where the last input sections of the parts from number part on end, after one more section; none if that one is
-- misplaced
abbrev pub all_placed : Layout → ℕ → List ℕ → List ℕ → InputSection → Option (List ℕ)
all_placed l part (end ∷ ends) (cursor ∷ cursors) s = both (placed_in l part end cursor s) (all_placed l (part + 1) ends cursors s)
all_placed l part ends cursors s = Some []

-- the same for a section that has bytes
abbrev pub bytes_placed_in : ℕ → ℕ → ℕ → InputSection → Option ℕ
bytes_placed_in part end cursor s =
    if s.part == part
    then (if nat_le cursor s.address && nat_le (s.address + s.size) end then Some (s.address + s.size) else None)
    else Some cursor

abbrev pub bytes_placed : ℕ → List ℕ → List ℕ → InputSection → Option (List ℕ)
bytes_placed part (end ∷ ends) (cursor ∷ cursors) s = both (bytes_placed_in part end cursor s) (bytes_placed (part + 1) ends cursors s)
bytes_placed part ends cursors s = Some []

-- the same after a file
abbrev pub file_all_placed : Layout → ℕ → List ℕ → List ℕ → File → Option (List ℕ)
file_all_placed l part ends cursors f = through (all_placed l part ends) cursors (sections_in_ranges l f)

-- ---- the group of a misplaced section. The last group's ranges hold the sorted sections of all groups

-- group g where the sections before are misplaced, otherwise the answer for their cursors
abbrev pub group_or : ℕ → (List ℕ → Option ℕ) → Option (List ℕ) → Option ℕ
group_or g rest None = Some g
group_or g rest (Some cursors) = rest cursors

-- the group of the first entry of the order whose section is misplaced
abbrev pub entry_group : Layout → ℕ → List ℕ → List ℕ → List SortedSection → Option ℕ
entry_group l part ends cursors [] = None
entry_group l part ends cursors (x ∷ xs) = group_or x.group (λ next. entry_group l part ends next xs) (through (all_placed l part ends) cursors (map (λ (i : Input). i.section) (sorted_input l x)))

-- the cursors after a file's own sections
abbrev pub own_all_placed : Layout → ℕ → List ℕ → List ℕ → File → Option (List ℕ)
own_all_placed l part ends cursors f = through (all_placed l part ends) cursors f.sections

-- the group of a section that is misplaced in a part's range of group g, number i, which ends the part: own sections come first
abbrev pub owner_in_part : Layout → ℕ → Group → ℕ → Part → Option ℕ
owner_in_part l i g k p =
    group_or i (λ cursors. entry_group l k ((p.address + p.size) ∷ []) cursors l.sorted) (through (own_all_placed l k ((p.address + p.size) ∷ [])) ((p.address + p.size - given k g) ∷ []) g.files)

abbrev pub or_group : Option ℕ → ℕ → ℕ
or_group None other = other
or_group (Some g) other = g

-- the same in the first part, from number k on, that has one
abbrev pub owner_in_parts : Layout → ℕ → Group → ℕ → List Part → ℕ
owner_in_parts l i g k [] = i
owner_in_parts l i g k (p ∷ ps) = or_group (owner_in_part l i g k p) (owner_in_parts l i g (k + 1) ps)

-- the group of the misplaced section, if group i is the first in whose ranges one lies
abbrev pub misplaced_owner : Layout → ℕ → ℕ
misplaced_owner l i = if i + 1 == length l.groups then owner (slice_get l.groups i) else i
  where
    owner : Option Group → ℕ
    owner None = i
    owner (Some g) = owner_in_parts l i g 0 l.parts

abbrev pub misplaced_place : Layout → Option ℕ
misplaced_place l = option_map (misplaced_owner l) (section_misplaced l (addresses l.parts) 0 l.groups)
