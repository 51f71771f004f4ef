-- The tables that fill addresses and slots, in the image.
--   group_words l g   the words of a group's packed places
--   relative_entries l f     the relative entries of a file
--   other_entries l f      its other entries, with symbols, resolvers or modules
--   tables_of l       the words and entries that the groups of a layout write
--   HasTablesIn l     the image has a dynamic section, which names these tables
--   HasSectionsIn l   the image has no dynamic section, and its sections have these entries
use Rattle.std.specs.Prelude.{◌≡◌, ℕ, ◌<◌, if◌then◌else◌, List, [], ◌++◌, All, IsPermutation}
use Rattle.std.specs.List.{flat_map}
use Rattle.wild_records.specs.declared.dynamic.DynamicEntry.{DynamicEntry}
use Rattle.wild_records.specs.declared.relocations.Rela.{Rela}
use Rattle.wild_records.specs.declared.section_header.SectionHeader.{SectionHeader}
use Rattle.wild_slot.specs.declared.slot_parts.EntryPart.TheVariants as entries
use Rattle.wild_types.specs.declared.file.File.{File}
use Rattle.wild_types.specs.declared.file.Group.{Group}
use Rattle.wild_types.specs.declared.layout.Layout.{Layout}
use Rattle.wild_types.specs.FileRoles.{is_prelude}
use Rattle.wild_needs.specs.SlotShares.{block_words}
use Rattle.wild_needs.specs.Entries.{sorted_words}
use Rattle.wild_needs.specs.Needs.{has_last}
use Rattle.wild_table_formats.specs.Headers.{file_header, section_headers_of}
use Rattle.wild_placement.specs.PlacedSections.{placed_files}
use Rattle.wild_layout.specs.Image.{bytes}
use Rattle.wild_layout.specs.RelativeRelocations.{file_entries, file_words}
use Rattle.wild_layout.specs.DynamicRelocations.{file_generals}
use Rattle.wild_layout.specs.SlotBytes.{slot_entries_of, flat_places_of, storage_entries}
use Rattle.wild_loader.specs.declared.tables.Tables.{Tables}
use Rattle.wild_loader.specs.Laws.{HasDynamic, HasTables, HasSectionTables, section_relas, IsStatic}
use Rattle.wild_loaded.specs.Memory.{headers_of}

-- the words of packed places: for each file those of input sections, then those of slots; after them those of the RELR block and,
-- if the group has the last file, those of the sorted sections
abbrev pub packed_words_of_file : Layout → File → List ℕ
packed_words_of_file l f = file_words l f ++ flat_places_of l f

abbrev pub words_of_last : Layout → Group → List ℕ
words_of_last l g = if has_last g then sorted_words l else []

abbrev pub group_words : Layout → Group → List ℕ
group_words l g = flat_map (packed_words_of_file l) (placed_files l g) ++ (block_words l g ++ words_of_last l g)

-- the relative entries of a file: those of input sections, and those of slots
abbrev pub relative_entries : Layout → File → List Rela
relative_entries l f = file_entries l f ++ slot_entries_of entries.Relative l f

-- its other entries: in the first file that of the shared module pair; those of copies and of fields; and those of slots
abbrev pub entries_of_first_file : Layout → File → List Rela
entries_of_first_file l f = if is_prelude f.role then storage_entries l else []

abbrev pub other_entries : Layout → File → List Rela
other_entries l f = entries_of_first_file l f ++ (file_generals l f ++ slot_entries_of entries.General l f)

-- the tables that the groups write, in file order: words of packed places, relative entries followed by the others, and those of
-- the slots that stubs use
abbrev pub tables_of : Layout → Tables
tables_of l = record {
  words = flat_map (group_words l) l.groups;
  entries = flat_map (λ (g : Group). flat_map (relative_entries l) (placed_files l g)) l.groups ++ flat_map (λ (g : Group). flat_map (other_entries l) (placed_files l g)) l.groups;
  jumps = flat_map (λ (g : Group). flat_map (slot_entries_of entries.Plt l) (placed_files l g)) l.groups;
}

-- the image has a dynamic section, and its entries lead to these tables
pub record HasTablesIn (l : Layout) : Type 0 where
  pub entries : List DynamicEntry
  pub dynamic : HasDynamic (bytes l) (headers_of l) entries
  pub tables : HasTables (bytes l) (headers_of l) entries (tables_of l)

-- the image has no dynamic section and no packed place; its sections have the entries, in their own order
pub record HasSectionsIn (l : Layout) : Type 0 where
  pub static : All IsStatic (headers_of l)
  pub words : (tables_of l).words ≡ []
  pub of : SectionHeader → List Rela
  pub sections : HasSectionTables (bytes l) (section_headers_of l l.sections) of
  pub all : IsPermutation (section_relas (section_headers_of l l.sections) of) ((tables_of l).entries ++ (tables_of l).jumps)
  pub told : 0 < (file_header l).section_offset
