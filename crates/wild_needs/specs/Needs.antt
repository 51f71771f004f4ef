-- The bytes that a group needs of a part: the sum of its files' shares.
--   share l role f      the share of one file in a part of that role
--   needs l part group  the group's share of the part, at most 2^64 - 1
--   is_plain l f        the file writes only input sections, as far as its role and its symbols' slots show
--   has_no_dynamic_tables l           the output has no dynamic section, no `.symtab`, and no symbol that has a slot or that another module defines
--   file_needs_no_tables f       in such an output, a file that is plain by its role and its sections
--   inner_groups_need_no_tables l     in such an output, all files between the first and the last group are such files
--   total_share l r      the sum of the shares of all groups in the part of a role
use Rattle.std.specs.Prelude.{ℕ, ◌-◌, ◌^◌, ◌==◌, Bool, true, false, ◌&&◌, List, length, ◌+◌, ◌*◌, if◌then◌else◌, not, min, Option, Some, None, is_some, slice_get, slice_range, slice_index_or}
use Rattle.std.specs.List.{list_all, list_any}
use Rattle.wild_types.specs.declared.layout.Layout.{Layout}
use Rattle.wild_types.specs.declared.part.Role.{Role}
use Rattle.wild_types.specs.declared.part.Role.TheVariants as role
use Rattle.wild_needs.specs.DynamicSymbols.{dynamic_symbols}
use Rattle.wild_types.specs.Lists.{total}
use Rattle.wild_needs.specs.Versions.{definitions_room, needs_room}
use Rattle.wild_records.specs.FileHeader.{file_header_size}
use Rattle.wild_records.specs.ProgramHeader.{program_header_size}
use Rattle.wild_records.specs.SectionHeader.{section_header_size}
use Rattle.wild_types.specs.declared.part.Part.{Part}
use Rattle.wild_types.specs.declared.file.FileRole.{FileRole}
use Rattle.wild_types.specs.declared.file.File.{File}
use Rattle.wild_types.specs.declared.file.Group.{Group}
use Rattle.wild_records.specs.Relocations.{rela_size, relr_size}
use Rattle.wild_records.specs.Dynamic.{dynamic_entry_size}
use Rattle.wild_records.specs.SymtabEntry.{symtab_entry_size}
use Rattle.wild_records.specs.Versyms.{versym_size}
use Rattle.wild_records.specs.HashTables.{gnu_hash_header_size}
use Rattle.wild_records.specs.Frames.{eh_frame_hdr_size, eh_frame_hdr_entry_size}
use Rattle.wild_records.specs.Notes.{note_header_size}
use Rattle.wild_types.specs.declared.layout.Property.{Property}
use Rattle.wild_types.specs.declared.layout.PropertyValue.{PropertyValue}
use Rattle.wild_types.specs.declared.layout.PropertyValue.TheVariants as values
use Rattle.wild_types.specs.declared.input.InputSection.{InputSection}
use Rattle.wild_types.specs.Lookups.{is_frame, writable}
use Rattle.wild_placement.specs.PlacedSections.{placed_files, all_fdes}
use Rattle.wild_types.specs.declared.layout.SysvHash.{SysvHash}
use Rattle.wild_types.specs.declared.layout.GnuHash.{GnuHash}
use Rattle.wild_types.specs.Kinds.{is_position_independent, needs_dynamic, needs_dynsym}
use Rattle.wild_types.specs.FileRoles.{is_prelude, is_epilogue}
use Rattle.wild_needs.specs.Entries.{entry_count, word_count, sorted_words, general_count}
use Rattle.wild_needs.specs.SlotShares.{slot_share, header_share, relr_got_share}
use Rattle.wild_types.specs.FileSymbols.{own_symbols, copies_of}
use Rattle.wild_types.specs.declared.symbol.Symbol.{Symbol}
use Rattle.wild_types.specs.Flags.{has_flag, dynamic}
use Rattle.wild_types.specs.SymbolSlots.{lacks_slots}
use Rattle.wild_needs.specs.Dynamic.{dynamic_count}
use Rattle.wild_types.specs.Lookups.{has_symtab}
use Rattle.wild_needs.specs.TableSymbols.{has_long, local_count, global_count, table_strings}
use Rattle.wild_needs.specs.DynamicStrings.{text_room, entry_names, strings_room, needed_count}

-- the size of the section names in bytes, each with a terminating zero
abbrev pub name_bytes : Layout → ℕ
name_bytes l = total (λ s. length s.name + 1) l.sections

-- the last file's bytes, which follow all others
abbrev pub bytes_if_last : FileRole → ℕ → ℕ
bytes_if_last f size = if is_epilogue f then size else 0

-- the search table of frames: its header, and an entry for each kept FDE (LSB, "The .eh_frame_hdr section")
abbrev pub search_table_room : Layout → ℕ
search_table_room l = if l.options.eh_frame_hdr then eh_frame_hdr_size + eh_frame_hdr_entry_size * all_fdes l else 0

-- a GNU note: its header, and the name with a terminating zero (gABI, "Note Section")
abbrev pub gnu_note_size : ℕ
gnu_note_size = note_header_size + 4

-- the note of a build id
abbrev pub build_id_room : Option (List ℕ) → ℕ
build_id_room None = 0
build_id_room (Some id) = gnu_note_size + length id

-- a property: its type and size, and a value in multiples of 8 bytes (x86-64 psABI, "Program Property"; aaelf64, "Program Property")
abbrev pub value_room : PropertyValue → ℕ
value_room (values.Word v) = 16
value_room (values.PointerAuthentication platform version) = 24

abbrev pub property_room : Property → ℕ
property_room p = value_room p.value

-- the note of the properties, if there are any
abbrev pub properties_room : List Property → ℕ
properties_room ps = if length ps == 0 then 0 else gnu_note_size + total property_room ps

-- the placed frames of a file; if the option is set, the last file also has the zero length that ends the frames
abbrev pub frame_room : InputSection → ℕ
frame_room s = if is_frame s.slot then s.size else 0

abbrev pub frames_room : Layout → File → ℕ
frames_room l f = total frame_room f.sections + (if l.options.terminator then bytes_if_last f.role 4 else 0)

-- the bytes that appear once in an image, by role; parts of other roles are empty
abbrev pub bytes_per_image : Layout → Role → ℕ
bytes_per_image l role.FileHeader = file_header_size
bytes_per_image l role.ProgramHeaders = program_header_size * length l.segments
bytes_per_image l role.SectionHeaders = section_header_size * length l.sections
bytes_per_image l role.Shstrtab = name_bytes l
bytes_per_image l role.EhFrameHdr = search_table_room l
bytes_per_image l role.Interp = length l.interp
bytes_per_image l other = 0

-- the number of entries of a file in the dynamic symbol table, which begins with the null symbol (gABI, "Symbol Table")
abbrev pub dynsym_count : Layout → File → ℕ
dynsym_count l f = if needs_dynsym l.kind then (if is_prelude f.role then 1 else 0) + length (entry_names l f) else 0

-- the number of symbols of a file that have a version, if the option is set
abbrev pub version_count : Layout → File → ℕ
version_count l f = if l.options.versions then dynsym_count l f else 0

-- the size of a hash table of that shape: the two counts, a word for each bucket, and one for each symbol (gABI, "Hash Table")
abbrev pub sysv_room : Layout → Option SysvHash → ℕ
sysv_room l None = 0
sysv_room l (Some h) = 8 + (4 * h.buckets + 4 * (1 + length (dynamic_symbols l)))

-- the size of a GNU hash table: the header, the Bloom filter, a word for each bucket, and one for each symbol of `dynsyms` (GNU,
-- "DT_GNU_HASH")
abbrev pub gnu_room : Layout → Option GnuHash → ℕ
gnu_room l None = 0
gnu_room l (Some h) = gnu_hash_header_size + (8 * h.bloom_count + (4 * h.buckets + 4 * length l.dynsyms))

-- the bytes of the last file, if the output has dynamic symbols
abbrev pub last_dynamic : Layout → FileRole → ℕ → ℕ
last_dynamic l f size = if needs_dynsym l.kind then bytes_if_last f size else 0

-- the size of a 32-bit section index in bytes (gABI, SHT_SYMTAB_SHNDX)
abbrev pub long_index_size : ℕ
long_index_size = 4

-- the size of count 32-bit indexes, if a part of that role has them
abbrev pub long_room : Layout → Role → ℕ → ℕ
long_room l r count = if has_long l r then long_index_size * count else 0

-- the share of a file in tables for a loader and other readers:
--   relative relocations, as entries with addends and as RELR words
--   the entries that name symbols or resolvers
--   the dynamic symbol table, its strings, versions and hash tables, and the dynamic section
--   `.symtab` with its strings and indexes
--   frames and notes
abbrev pub file_table_bytes : Layout → Role → File → ℕ
file_table_bytes l role.RelaDynRelative f = rela_size * entry_count l f
file_table_bytes l role.RelaDynGeneral f = rela_size * general_count l f
file_table_bytes l role.RelrDyn f = relr_size * word_count l f
file_table_bytes l role.Dynsym f = symtab_entry_size * dynsym_count l f
file_table_bytes l role.Dynstr f = strings_room l f
file_table_bytes l role.GnuVersion f = versym_size * version_count l f
file_table_bytes l role.GnuVersionD f = definitions_room l f
file_table_bytes l role.GnuVersionR f = needs_room l f
file_table_bytes l role.SysvHash f = last_dynamic l f.role (sysv_room l l.sysv_hash)
file_table_bytes l role.GnuHash f = last_dynamic l f.role (gnu_room l l.gnu_hash)
file_table_bytes l role.Dynamic f = dynamic_entry_size * (needed_count l f + bytes_if_last f.role (dynamic_count l))
file_table_bytes l role.SymtabLocal f = symtab_entry_size * local_count l f
file_table_bytes l role.SymtabGlobal f = symtab_entry_size * global_count l f
file_table_bytes l role.SymtabShndxLocal f = long_room l role.SymtabShndxLocal (local_count l f)
file_table_bytes l role.SymtabShndxGlobal f = long_room l role.SymtabShndxGlobal (global_count l f)
file_table_bytes l role.Strtab f = total text_room (table_strings l f)
file_table_bytes l role.EhFrame f = frames_room l f
file_table_bytes l role.BuildId f = bytes_if_last f.role (build_id_room l.build_id)
file_table_bytes l role.Property f = bytes_if_last f.role (properties_room l.properties)
file_table_bytes l other f = 0

-- the roles for which a file's share depends on its sections
abbrev pub reads_sections : Role → Bool
reads_sections role.RelaDynRelative = true
reads_sections role.RelaDynGeneral = true
reads_sections role.RelrDyn = true
reads_sections role.EhFrame = true
reads_sections other = false

-- the roles for which it depends on the addresses of the sections
abbrev pub reads_places : Layout → Role → Bool
reads_places l role.RelaDynRelative = is_position_independent l.kind && l.options.relr
reads_places l role.RelrDyn = is_position_independent l.kind && l.options.relr
reads_places l other = false

-- roles that an output which no loader relocates may need besides slots: entries for resolvers, frames (by its sections), and notes
abbrev pub is_static : Layout → Role → Bool
is_static l role.RelaDynGeneral = true
is_static l role.EhFrame = true
is_static l role.BuildId = is_some l.build_id
is_static l role.Property = not (length l.properties == 0)
is_static l other = false

-- the share of the first file: the bytes that appear once
abbrev pub first_share : Layout → Role → ℕ
first_share l r = bytes_per_image l r + header_share l r

-- the share of one file in a part of that role
abbrev pub share : Layout → Role → File → ℕ
share l r f = (if is_prelude f.role then first_share l r else 0) + file_table_bytes l r f + slot_share l r f

-- the file is neither the first nor the last, and the output has no dynamic section and no `.symtab`
abbrev pub has_plain_role : Layout → File → Bool
has_plain_role l f = not (needs_dynamic l.kind) && not (has_symtab l) && not (is_prelude f.role) && not (is_epilogue f.role)

-- such a file without slots, entries and frames: it writes only input sections
abbrev pub is_plain : Layout → File → Bool
is_plain l f = has_plain_role l f && (list_all lacks_slots (own_symbols l f) && (general_count l f == 0 && frames_room l f == 0))

-- the symbol has no slot, and no other module defines it
abbrev pub lacks_slots_and_import : Symbol → Bool
lacks_slots_and_import s = lacks_slots s && not (has_flag s.flags dynamic)

-- the output has no dynamic section and no `.symtab`, and all its symbols are such symbols
abbrev pub has_no_dynamic_tables : Layout → Bool
has_no_dynamic_tables l = not (needs_dynamic l.kind) && not (has_symtab l) && list_all lacks_slots_and_import l.symbols

-- a read-only section without frames: in such an output no entry names a symbol for one of its fields
abbrev pub is_read_only_input : InputSection → Bool
is_read_only_input s = not (is_frame s.slot) && not (writable s.flags)

-- a file of such sections that has no copy relocations and is neither the first nor the last
abbrev pub file_needs_no_tables : File → Bool
file_needs_no_tables f = not (is_prelude f.role) && not (is_epilogue f.role) && length (copies_of f) == 0 && list_all is_read_only_input f.sections

-- a group of such files
abbrev pub group_needs_no_tables : Group → Bool
group_needs_no_tables g = list_all file_needs_no_tables g.files

-- the groups between the first and the last
abbrev pub inner_groups : List Group → List Group
inner_groups gs = slice_range gs 1 (length gs - 1)

-- in such an output these groups have only such files
abbrev pub inner_groups_need_no_tables : Layout → Bool
inner_groups_need_no_tables l = has_no_dynamic_tables l && list_all group_needs_no_tables (inner_groups l.groups)

-- the group contains the last file
abbrev pub has_last : Group → Bool
has_last g = list_any (λ (f : File). is_epilogue f.role) g.files

-- the bytes that follow all else of the group with the last file: the RELR words of the sorted sections, after those of the group's
-- block of slots
abbrev pub last_share : Layout → Role → Group → ℕ
last_share l role.RelrDyn g = if has_last g then relr_size * length (sorted_words l) else 0
last_share l other g = 0

-- the share of a group in a part of that role: the shares of its files with placed sections, the RELR words of its block of slots, and
-- what follows them
abbrev pub group_share : Layout → Role → Group → ℕ
group_share l r g = total (share l r) (placed_files l g) + (relr_got_share l r g + last_share l r g)

-- the layout itself gives the room of input sections, in raw parts
abbrev pub needs_of : Layout → Role → ℕ → Group → ℕ
needs_of l role.Raw part g = slice_index_or g.part_sizes part 0
needs_of l r part g = min (2 ^ 64 - 1) (group_share l r g)

abbrev pub needs_by : Layout → ℕ → Option Part → Option Group → ℕ
needs_by l part (Some p) (Some g) = needs_of l p.role part g
needs_by l part _ _ = 0

-- the group's share of the part; 0 if there is no such part or group
unfoldable pub needs : Layout → ℕ → ℕ → ℕ
needs l part group = needs_by l part (slice_get l.parts part) (slice_get l.groups group)

-- the sum of the shares of all groups in a part of that role
abbrev pub total_share : Layout → Role → ℕ
total_share l r = total (group_share l r) l.groups
