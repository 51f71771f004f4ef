-- What placed sections contribute to dynamic tables.
--   is_applied r            the part of that role is a table of dynamic relocations
--   is_apart r              frames and their search table, which are not computed file by file
--   section_given r l s     the bytes that a placed section contributes to the part of that role
--   sorted_given r l x      those of a sorted input section
--   copy_entries_before r l f      the COPY entries of a file, which come before those of its sections
--   entries_after r l f      the entries of the sorted input sections, which come after those of the last file's sections
--   group_frames l g        the frames of a group, relocated
use Rattle.std.specs.Prelude.{◌≡◌, ℕ, Bool, true, false, if◌then◌else◌, List, [], All}
use Rattle.std.specs.List.{flat_map}
use Rattle.wild_types.specs.declared.part.Role.{Role}
use Rattle.wild_types.specs.declared.part.Role.TheVariants as role
use Rattle.wild_types.specs.declared.input.InputSection.{InputSection}
use Rattle.wild_types.specs.declared.file.File.{File}
use Rattle.wild_types.specs.declared.file.Group.{Group}
use Rattle.wild_types.specs.declared.layout.SortedSection.{SortedSection}
use Rattle.wild_types.specs.declared.layout.Layout.{Layout}
use Rattle.wild_types.specs.FileRoles.{is_prelude}
use Rattle.wild_types.specs.FileSymbols.{copies_of}
use Rattle.wild_placement.specs.ReversedWords.{with_word_order}
use Rattle.wild_placement.specs.PlacedSections.{Input, placed_files, sorted_input, sorted_sections, of_last_file}
use Rattle.wild_layout.specs.Content.{frames_bytes}
use Rattle.wild_layout.specs.SearchTable.{search_table}
use Rattle.wild_contents.specs.FileTables.{section_entry_bytes, section_word_bytes}
use Rattle.wild_contents.specs.General.{section_general_bytes, copy_bytes}

-- the part of that role is a table of dynamic relocations
abbrev pub is_applied : Role → Bool
is_applied role.RelaDynRelative = true
is_applied role.RelaDynGeneral = true
is_applied role.RelrDyn = true
is_applied other = false

-- frames and their search table are not computed file by file
abbrev pub is_apart : Role → Bool
is_apart role.EhFrame = true
is_apart role.EhFrameHdr = true
is_apart other = false

-- the bytes that a placed section contributes to the part of that role
abbrev pub section_given : Role → Layout → InputSection → List ℕ
section_given role.RelaDynRelative l s = section_entry_bytes l s
section_given role.RelaDynGeneral l s = section_general_bytes l s
section_given role.RelrDyn l s = section_word_bytes l s
section_given other l s = []

-- those of a sorted input section
abbrev pub input_given : Role → Layout → Input → List ℕ
input_given r l x = section_given r l (with_word_order x.section)

abbrev pub sorted_given : Role → Layout → SortedSection → List ℕ
sorted_given r l x = flat_map (input_given r l) (sorted_input l x)

-- the entries before those of a file's sections
abbrev pub copy_entries_before : Role → Layout → File → List ℕ
copy_entries_before role.RelaDynGeneral l f = flat_map (copy_bytes l) (copies_of f)
copy_entries_before other l f = []

abbrev pub sorted_entries_after : Role → Layout → List ℕ
sorted_entries_after r l = flat_map (section_given r l) (sorted_sections l)

-- the entries after those of a file's sections; RELR words of sorted sections are not among them, they follow those of the group's GOT words
abbrev pub entries_after : Role → Layout → File → List ℕ
entries_after role.RelaDynRelative l f = of_last_file f (sorted_entries_after role.RelaDynRelative l)
entries_after role.RelaDynGeneral l f = of_last_file f (sorted_entries_after role.RelaDynGeneral l)
entries_after other l f = []

-- the frames of a group, relocated
unfoldable pub group_frames : Layout → Group → List ℕ
group_frames l g = flat_map (frames_bytes l) (placed_files l g)

-- the first file contributes the search table
abbrev pub first_given : List ℕ → File → List ℕ
first_given table f = if is_prelude f.role then table else []

-- the bytes are the search table, if the file is the first one
abbrev pub HasSearchTable : Layout → List ℕ → File → Type 0
HasSearchTable l table f = is_prelude f.role ≡ true → table ≡ search_table l

-- the bytes are the search table, if one of the files is the first one
abbrev pub HaveSearchTable : Layout → List ℕ → List File → Type 0
HaveSearchTable l table fs = All (HasSearchTable l table) fs
