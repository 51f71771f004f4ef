-- What a group contributes to the parts.
--   unique_table l r   a table that the image has once, by role; empty for the other roles
--   file_part_bytes l r f   what a file contributes to a part that a loader reads
--   content l r g     the bytes that a group contributes to a part of that role: the first file's group has the headers and
--                     the names; the input sections of a raw part are not among them
use Rattle.std.specs.Prelude.{ℕ, ◌-◌, ◌*◌, Bool, true, false, ◌&&◌, List, [], ◌∷◌, ◌++◌, length, map, if◌then◌else◌, Option, Some, None, slice_get}
use Rattle.std.specs.List.{flat_map, list_any}
use Rattle.wild_types.specs.declared.part.Role.{Role}
use Rattle.wild_types.specs.declared.part.Role.TheVariants as role
use Rattle.wild_types.specs.declared.file.File.{File}
use Rattle.wild_types.specs.declared.file.Group.{Group}
use Rattle.wild_types.specs.declared.layout.SysvHash.{SysvHash}
use Rattle.wild_types.specs.declared.layout.GnuHash.{GnuHash}
use Rattle.wild_types.specs.declared.layout.Layout.{Layout}
use Rattle.wild_records.specs.Dynamic.{dynamic_entry_size}
use Rattle.wild_needs.specs.DynamicStrings.{file_strings, needed_entries}
use Rattle.wild_needs.specs.DynamicSymbols.{first_listed}
use Rattle.wild_needs.specs.Entries.{sorted_words}
use Rattle.wild_needs.specs.Needs.{has_last}
use Rattle.wild_types.specs.Kinds.{needs_dynsym}
use Rattle.wild_needs.specs.TableSymbols.{has_long, table_strings}
use Rattle.wild_hashes.specs.Tables.{sysv_hash_of, gnu_hash_of, gnu_header, gnu_table, sysv_table}
use Rattle.wild_table_formats.specs.SymbolVersions.{version_bytes}
use Rattle.wild_table_formats.specs.VersionNames.{symbol_versions, file_definitions, group_needs}
use Rattle.wild_table_formats.specs.Strings.{string_bytes}
use Rattle.wild_table_formats.specs.TableEntries.{file_table, table_entries, long_indexes, index_bytes}
use Rattle.wild_table_formats.specs.Symbols.{symbol_bytes}
use Rattle.wild_table_formats.specs.DynamicEntries.{group_symbols}
use Rattle.wild_types.specs.FileRoles.{is_prelude, is_epilogue}
use Rattle.wild_types.specs.Shares.{share_of}
use Rattle.wild_relr.specs.WriterState.{word_bytes}
use Rattle.wild_table_formats.specs.RelativeEntries.{rela_bytes}
use Rattle.wild_table_formats.specs.DynamicSection.{entries_bytes, dynamic_bytes}
use Rattle.wild_layout.specs.RelativeRelocations.{file_entries, file_words}
use Rattle.wild_layout.specs.DynamicRelocations.{file_generals}
use Rattle.wild_types.specs.declared.input.InputSection.{InputSection}
use Rattle.wild_types.specs.Item.{item_of}
use Rattle.wild_types.specs.Lookups.{is_frame}
use Rattle.wild_frames.specs.Frames.{terminator}
use Rattle.wild_placement.specs.PlacedSections.{placed_files, of_last_file}
use Rattle.wild_layout.specs.Sites.{item_bytes}
use Rattle.wild_layout.specs.Notes.{build_id_note, property_note}
use Rattle.wild_layout.specs.SearchTable.{search_table}
use Rattle.wild_layout.specs.SlotBytes.{slot_bytes, header_bytes, block_bytes}
use Rattle.wild_table_formats.specs.Headers.{file_header_bytes, program_header_bytes, section_header_bytes, names_of}

-- a table that the image has once, by role; empty for the other roles
abbrev pub unique_table : Layout → Role → List ℕ
unique_table l role.FileHeader = file_header_bytes l
unique_table l role.ProgramHeaders = program_header_bytes l
unique_table l role.SectionHeaders = section_header_bytes l
unique_table l role.Shstrtab = names_of l
unique_table l role.EhFrameHdr = search_table l
unique_table l role.Interp = l.interp
unique_table l other = []

-- ---- what a loader reads

-- the size of the last file's room in the dynamic section: the last group's share minus its DT_NEEDED entries
abbrev pub last_file_room : Layout → Option Group → ℕ
last_file_room l None = 0
last_file_room l (Some g) = share_of l (length l.groups - 1) role.Dynamic - dynamic_entry_size * length (needed_entries l g)

abbrev pub dynamic_room : Layout → ℕ
dynamic_room l = last_file_room l (slice_get l.groups (length l.groups - 1))

-- the hash tables of the symbols that the output defines (gABI, "Hash Table"; GNU, "DT_GNU_HASH")
abbrev pub sysv_bytes : Layout → Option SysvHash → List ℕ
sysv_bytes l None = []
sysv_bytes l (Some h) = sysv_table h.buckets (first_listed l) (map sysv_hash_of l.dynsyms)

abbrev pub gnu_bytes : Layout → Option GnuHash → List ℕ
gnu_bytes l None = []
gnu_bytes l (Some h) = gnu_table (gnu_header h) (map gnu_hash_of l.dynsyms)

-- the last file has them, if the output has dynamic symbols
abbrev pub of_last : Layout → File → List ℕ → List ℕ
of_last l f bytes = if needs_dynsym l.kind && is_epilogue f.role then bytes else []

-- the extended section indexes of the local symbols, or of the others, if there is a part for them
abbrev pub indexes_of : Layout → Role → Bool → File → List ℕ
indexes_of l r local f = if has_long l r then index_bytes (long_indexes local (file_table l f)) else []

-- the frames of a placed section, relocated
unfoldable pub frame_bytes_of : Layout → File → InputSection → List ℕ
frame_bytes_of l f s = if is_frame s.slot then item_bytes l (item_of l f s) else []

-- a length of zero, which ends the frames of the output (LSB, "The .eh_frame section")
abbrev pub end_of_frames : Layout → List ℕ
end_of_frames l = if l.options.terminator then terminator else []

-- the frames of a file with placed sections; the terminator follows those of the last file
unfoldable pub frames_bytes : Layout → File → List ℕ
frames_bytes l f = flat_map (frame_bytes_of l f) f.sections ++ of_last_file f (end_of_frames l)

-- by role: RELA entries and RELR words; strings, each with a zero; versions of symbols, and those that the output defines; hash tables;
-- extended section indexes (gABI, "Relocation", "Relative Relocation Table", "String Table", "Hash Table", "Symbol Table"; LSB,
-- "Symbol Versioning"); frames; notes
abbrev pub file_part_bytes : Layout → Role → File → List ℕ
file_part_bytes l role.RelaDynRelative f = rela_bytes (file_entries l f)
file_part_bytes l role.RelaDynGeneral f = rela_bytes (file_generals l f)
file_part_bytes l role.RelrDyn f = word_bytes (file_words l f)
file_part_bytes l role.Dynstr f = string_bytes (file_strings l f)
file_part_bytes l role.GnuVersion f = version_bytes (symbol_versions l f)
file_part_bytes l role.GnuVersionD f = file_definitions l f
file_part_bytes l role.SysvHash f = of_last l f (sysv_bytes l l.sysv_hash)
file_part_bytes l role.GnuHash f = of_last l f (gnu_bytes l l.gnu_hash)
file_part_bytes l role.SymtabShndxLocal f = indexes_of l role.SymtabShndxLocal true f
file_part_bytes l role.SymtabShndxGlobal f = indexes_of l role.SymtabShndxGlobal false f
file_part_bytes l role.Strtab f = string_bytes (table_strings l f)
file_part_bytes l role.EhFrame f = frames_bytes l f
file_part_bytes l role.BuildId f = of_last_file f (build_id_note l.build_id)
file_part_bytes l role.Property f = of_last_file f (property_note l.properties)
file_part_bytes l other f = []

-- the bytes that a file contributes to a part of that role
abbrev pub file_content : Layout → Role → File → List ℕ
file_content l r f = (if is_prelude f.role then unique_table l r ++ header_bytes l r else []) ++ file_part_bytes l r f ++ slot_bytes l r f

-- the entries of a group in the dynamic section: DT_NEEDED of its libraries, and all others for the group of the last file (gABI,
-- "Dynamic Section")
abbrev pub dynamic_of : Layout → Group → List ℕ
dynamic_of l g = entries_bytes (needed_entries l g) ++ (if list_any (λ (f : File). is_epilogue f.role) g.files then dynamic_bytes l (dynamic_room l) else [])

-- the RELR words of the sorted input sections, which the last file writes, follow those of its group's GOT words
abbrev pub last_words : Layout → Group → List ℕ
last_words l g = if has_last g then word_bytes (sorted_words l) else []

-- what depends on all files of the group together: the RELR words of its GOT words, its symbols in the two tables, the versions needed
-- of its libraries, and its entries of the dynamic section
abbrev pub group_bytes : Layout → Role → Group → List ℕ
group_bytes l role.RelrDyn g = block_bytes l role.RelrDyn g ++ last_words l g
group_bytes l role.Dynsym g = symbol_bytes (group_symbols l g)
group_bytes l role.GnuVersionR g = group_needs l g
group_bytes l role.Dynamic g = dynamic_of l g
group_bytes l role.SymtabLocal g = symbol_bytes (table_entries l true g)
group_bytes l role.SymtabGlobal g = symbol_bytes (table_entries l false g)
group_bytes l r g = block_bytes l r g

-- the bytes that a group contributes to a part of that role: those of its files, with placed sections, and then those that depend on all
-- its files together
abbrev pub content : Layout → Role → Group → List ℕ
content l r g = flat_map (file_content l r) (placed_files l g) ++ group_bytes l r g
