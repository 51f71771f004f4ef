-- What a group has of each part, and what it counts.
--   group_given l part g  what a group contributes to a part: the content of the part's role
--   placed_in_range l f s        a section of file f with a range in its part, as placed
--   file_sections l f     the bytes of a file's input sections that have some in the image, consecutively; sorted_bytes l x those of
--                         a sorted input section; merged_and_identity_bytes l the merged strings, and the output's identity
--   group_tables l g      what a group contributes to the tables, part by part
--   group_files l g       the bytes of its files, in the order of processing
--   group_owned l part g  those of its files' bytes that are in a part
--   group_parts l g       the group's contribution to each part, and after it its files' bytes there
--   group_pairs l g       a pair of a section and a count for each input section whose relocations are counted
use Rattle.std.specs.Prelude.{ℕ, ◌==◌, ◌&&◌, Bool, false, not, ◌||◌, if◌then◌else◌, List, [], ◌∷◌, ◌++◌, map, length, Option, None, Some, slice_get}
use Rattle.std.specs.List.{flat_map, range_with_len}
use Rattle.wild_types.specs.declared.part.Part.{Part}
use Rattle.wild_types.specs.declared.part.Role.{Role}
use Rattle.wild_types.specs.declared.part.Role.TheVariants as role
use Rattle.wild_types.specs.declared.input.Slot.{Slot}
use Rattle.wild_types.specs.declared.input.Slot.TheVariants as slot
use Rattle.wild_types.specs.declared.input.InputSection.{InputSection}
use Rattle.wild_types.specs.declared.file.File.{File}
use Rattle.wild_types.specs.declared.file.Group.{Group}
use Rattle.wild_types.specs.declared.layout.Thunk.{Thunk}
use Rattle.wild_types.specs.declared.layout.Merged.{Merged}
use Rattle.wild_types.specs.declared.layout.SortedSection.{SortedSection}
use Rattle.wild_types.specs.declared.layout.Layout.{Layout}
use Rattle.wild_types.specs.FileThunks.{thunks_of}
use Rattle.wild_types.specs.Kinds.{is_partial_link}
use Rattle.wild_types.specs.Parts.{has_role}
use Rattle.wild_types.specs.Lookups.{section_of, has_range, is_filled, is_counted, has_data, is_header_only_at, is_header_only_part}
use Rattle.wild_types.specs.HeaderOnly.{is_omitted}
use Rattle.wild_placement.specs.ReversedWords.{with_word_order}
use Rattle.wild_placement.specs.PlacedSections.{Input, placed_section, sorted_input, of_last_file}
use Rattle.wild_layout.specs.Sites.{section_bytes}
use Rattle.wild_layout.specs.Content.{content}
use Rattle.wild_layout.specs.Image.{offset_in, unless_omitted, merged_bytes, of_first_file}
use Rattle.wild_layout.specs.Thunks.{thunk_bytes, file_thunks}

-- the role of a part; raw if there is no such part
abbrev pub role_of : Option Part → Role
role_of None = role.Raw
role_of (Some p) = p.role

-- what a group contributes to a part
abbrev pub group_given : Layout → ℕ → Group → List ℕ
group_given l part g = unless_omitted l part (content l (role_of (slice_get l.parts part)) g)

-- ---- bytes of files, consecutively

-- a section of a file with a range in its part, as placed; the address 0 is used for frames only, which have no such range
abbrev pub placed_in_range : Layout → File → InputSection → InputSection
placed_in_range l f s = placed_section l f 0 s

-- a loaded, sorted or debug section has bytes in the image
abbrev pub has_some : Layout → InputSection → Bool
has_some l s = not (s.size == 0) && (not s.nobits || has_data l (section_of l s.part))

-- and its part is written
abbrev pub has_room : Layout → InputSection → Bool
has_room l s = has_some l s && not (is_header_only_part l s.part)

-- a section with a range in its part has bytes there
abbrev pub some_by : Slot → Layout → InputSection → Bool
some_by slot.Loaded l s = has_some l s
some_by slot.Debug l s = has_some l s
some_by slot.Rela l s = not s.nobits && not (s.size == 0)
some_by slot.Group l s = not s.nobits && not (length s.bytes == 0)
some_by other l s = false

abbrev pub ranged_room : Layout → InputSection → Bool
ranged_room l s = some_by s.slot l s && not (is_header_only_part l s.part)

-- the file offset of a section
abbrev pub place_in : Layout → InputSection → ℕ
place_in l s = offset_in (slice_get l.parts s.part) s.address

-- the bytes of a placed input section, if it has some in the image
abbrev pub section_owned : Layout → File → InputSection → List ℕ
section_owned l f s = if is_filled l s then section_bytes l f s else []

-- the same for a section of the plan with a range in its part
abbrev pub ranged_owned : Layout → File → InputSection → List ℕ
ranged_owned l f s = if has_range s.slot then section_owned l f (placed_in_range l f s) else []

abbrev pub file_sections : Layout → File → List ℕ
file_sections l f = flat_map (ranged_owned l f) f.sections

-- the same for a sorted input section
abbrev pub input_owned : Layout → Input → List ℕ
input_owned l x = section_owned l x.file (with_word_order x.section)

abbrev pub sorted_owned : Layout → SortedSection → List ℕ
sorted_owned l x = flat_map (input_owned l) (sorted_input l x)

abbrev pub all_sorted : Layout → List ℕ
all_sorted l = flat_map (sorted_owned l) l.sorted

-- what is written once: the merged strings, and the output's identity
abbrev pub merged_and_identity_bytes : Layout → List ℕ
merged_and_identity_bytes l = flat_map merged_bytes l.merged ++ l.identity.bytes

-- what only the last or only the first file has
abbrev pub trailer_bytes : Layout → File → List ℕ
trailer_bytes l f = of_last_file f (all_sorted l) ++ of_first_file f (merged_and_identity_bytes l)

-- the bytes of a file: its input sections, then what only the last or the first file has, then its thunks
abbrev pub file_bytes : Layout → File → List ℕ
file_bytes l f = file_sections l f ++ (trailer_bytes l f ++ unless_omitted l l.primary_part (file_thunks l f))

-- the bytes of a group's files, in the order of processing
unfoldable pub group_files : Layout → Group → List ℕ
group_files l g = flat_map (file_bytes l) g.files

-- what a group contributes to a table, unless the table's section is omitted
abbrev pub table_given : Layout → Group → Part → List ℕ
table_given l g p = if is_header_only_at l p.section then [] else content l p.role g

-- the number of bytes written of n bytes of shares: 0 for a raw part and in an omitted section
abbrev pub written : Layout → Part → ℕ → ℕ
written l p n = if is_header_only_at l p.section then 0 else if has_role role.Raw p then 0 else n

-- what a group contributes to the tables, part by part
abbrev pub group_tables : Layout → Group → List ℕ
group_tables l g = flat_map (table_given l g) l.parts

-- ---- the same by part

-- the bytes, if they are in that part
abbrev pub in_part : ℕ → ℕ → List ℕ → List ℕ
in_part part k bs = if k == part then bs else []

-- the bytes of an input section of a file, if it has some in that part
abbrev pub owned_in : Layout → File → ℕ → InputSection → List ℕ
owned_in l f part s = if is_filled l s then in_part part s.part (section_bytes l f s) else []

abbrev pub ranged_in : Layout → File → ℕ → InputSection → List ℕ
ranged_in l f part s = if has_range s.slot then owned_in l f part (placed_in_range l f s) else []

abbrev pub sections_owned : Layout → ℕ → File → List ℕ
sections_owned l part f = flat_map (ranged_in l f part) f.sections

abbrev pub input_in : Layout → ℕ → Input → List ℕ
input_in l part x = owned_in l x.file part (with_word_order x.section)

abbrev pub sorted_in : Layout → ℕ → SortedSection → List ℕ
sorted_in l part x = flat_map (input_in l part) (sorted_input l x)

abbrev pub all_sorted_in : Layout → ℕ → List ℕ
all_sorted_in l part = flat_map (sorted_in l part) l.sorted

-- bytes at the front of a part
abbrev pub front_in : Layout → ℕ → ℕ → List ℕ → List ℕ
front_in l part k bs = unless_omitted l k (in_part part k bs)

-- merged strings, and the identity
abbrev pub merged_in : Layout → ℕ → Merged → List ℕ
merged_in l part m = front_in l part m.part (merged_bytes m)

abbrev pub merged_and_identity_in : Layout → ℕ → List ℕ
merged_and_identity_in l part = flat_map (merged_in l part) l.merged ++ front_in l part l.identity.part l.identity.bytes

-- thunks are in the primary part
abbrev pub thunk_in : Layout → ℕ → Thunk → List ℕ
thunk_in l part t = if l.primary_part == part then thunk_bytes l t else []

abbrev pub thunks_in : Layout → ℕ → File → List ℕ
thunks_in l part f = unless_omitted l l.primary_part (flat_map (thunk_in l part) (thunks_of l f))

-- what only the last or only the first file has
abbrev pub trailer_in : Layout → ℕ → File → List ℕ
trailer_in l part f = of_last_file f (all_sorted_in l part) ++ of_first_file f (merged_and_identity_in l part)

abbrev pub file_owned : Layout → ℕ → File → List ℕ
file_owned l part f = sections_owned l part f ++ (trailer_in l part f ++ thunks_in l part f)

unfoldable pub group_owned : Layout → ℕ → Group → List ℕ
group_owned l part g = flat_map (file_owned l part) g.files

-- all bytes of a group in a part
abbrev pub group_part : Layout → Group → ℕ → List ℕ
group_part l g part = group_given l part g ++ group_owned l part g

-- all bytes of a group in each part
unfoldable pub group_parts : Layout → Group → List (List ℕ)
group_parts l g = map (group_part l g) (range_with_len 0 (length l.parts))

-- ---- counts

-- what an input section adds to the count of its output section
abbrev pub section_pairs : Layout → InputSection → List (ℕ × ℕ)
section_pairs l s = if is_counted s && not (is_omitted l s) then (section_of l s.part, length s.relocations) ∷ [] else []

abbrev pub file_pairs : Layout → File → List (ℕ × ℕ)
file_pairs l f = flat_map (section_pairs l) f.sections

-- in a relocatable output nothing is counted, as no relocation is read
abbrev pub group_pairs : Layout → Group → List (ℕ × ℕ)
group_pairs l g = if is_partial_link l.kind then [] else flat_map (file_pairs l) g.files
