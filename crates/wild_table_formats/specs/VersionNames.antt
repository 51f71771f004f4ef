-- The offsets of version names in .dynstr, and the tables that contain these offsets.
--   offsets_from at ts          the offsets of consecutive strings, the first of which is at offset at
--   offset_after_entry_names l at f       the offset after the names of a file's entries, where the names of its versions begin
--   symbol_versions l f         the versions of a file's entries; none if the option for versions is not set
--   definition_offsets l f      the offsets of the names of the versions that the output defines
--   file_definitions l f        the table of these versions, which belongs to the last file
--   library_offset l at f, need_offsets l at f n   the offset of a library's name, and those of the versions that are needed of it
--   group_needs l g             the table of the versions that are needed of a group's libraries
use Rattle.std.specs.Prelude.{ℕ, ◌+◌, ◌-◌, ◌%◌, ◌^◌, ◌&&◌, if◌then◌else◌, min, List, [], ◌∷◌, ◌++◌, Option, Some, None}
use Rattle.wild_types.specs.declared.file.VersionNeeds.{VersionNeeds}
use Rattle.wild_types.specs.declared.file.File.{File}
use Rattle.wild_types.specs.declared.file.Group.{Group}
use Rattle.wild_types.specs.declared.layout.Layout.{Layout}
use Rattle.wild_needs.specs.DynamicStrings.{text_room, offset_after_string, dynstr_prefix_strings, entry_names, next_dynstr, string_start}
use Rattle.wild_types.specs.FileRoles.{is_epilogue}
use Rattle.wild_types.specs.Kinds.{needs_dynsym}
use Rattle.wild_types.specs.Lists.{total}
use Rattle.wild_needs.specs.Versions.{needs_of, needed_names, version_names}
use Rattle.wild_table_formats.specs.SymbolVersions.{file_versions}
use Rattle.wild_table_formats.specs.VersionDefinitions.{definition_table}
use Rattle.wild_table_formats.specs.VersionNeeds.{need_bytes}

-- ---- offsets

-- an offset as a record has it, in 32 bits
abbrev pub offset_u32 : ℕ → ℕ
offset_u32 at = at % 2 ^ 32

-- the offsets of consecutive strings, each with a zero at its end
unfoldable pub offsets_from : ℕ → List (List ℕ) → List ℕ
offsets_from at [] = []
offsets_from at (t ∷ ts) = offset_u32 at ∷ offsets_from (offset_after_string at t) ts

-- the offset after the names of a file's entries, at most 2^64 - 1
abbrev pub offset_after_entry_names : Layout → ℕ → File → ℕ
offset_after_entry_names l at f = min (2 ^ 64 - 1) (at + (total text_room (dynstr_prefix_strings l f) + total text_room (entry_names l f)))

-- ---- versions of symbols

-- the versions of a file's entries; none if the option for versions is not set
abbrev pub symbol_versions : Layout → File → List ℕ
symbol_versions l f = if l.options.versions && needs_dynsym l.kind then file_versions l f else []

-- ---- versions that the output defines

-- the offset after the search path, where the soname is; at itself without a search path
abbrev pub offset_after_search_path : ℕ → Option (List ℕ) → ℕ
offset_after_search_path at None = at
offset_after_search_path at (Some path) = offset_after_string at path

-- with a soname, the first version's name is the soname's string
abbrev pub with_soname_offset : ℕ → Option (List ℕ) → List ℕ → List ℕ
with_soname_offset at None offsets = offsets
with_soname_offset at (Some soname) offsets = offset_u32 at ∷ offsets

-- the offsets of their names, which come after the names of the last file's entries
unfoldable pub definition_offsets : Layout → File → List ℕ
definition_offsets l f =
    with_soname_offset (offset_after_search_path (string_start l) l.options.rpath) l.options.soname (offsets_from (offset_after_entry_names l (string_start l) f) (version_names l f))

-- the table, which belongs to the last file
unfoldable pub file_definitions : Layout → File → List ℕ
file_definitions l f =
    if needs_dynsym l.kind && is_epilogue f.role then definition_table (definition_offsets l f) l.options.soname l.verdefs else []

-- ---- versions that are needed of libraries

-- the needs of a library, whose name is at offset at, once more after the names of its entries; its versions' names come after it
abbrev pub need_at : ℕ → List ℕ → Option VersionNeeds → List ℕ
need_at at library None = []
need_at at library (Some n) = need_bytes (offset_u32 at) (offsets_from (offset_after_string at library) (needed_names n.versions)) n

-- the offset of the library's name in its record, and those of the names of the versions that are needed of it
abbrev pub library_offset : Layout → ℕ → File → ℕ
library_offset l at f = offset_u32 (offset_after_entry_names l at f)

abbrev pub need_offsets : Layout → ℕ → File → VersionNeeds → List ℕ
need_offsets l at f n = offsets_from (offset_after_string (offset_after_entry_names l at f) f.lib_name) (needed_names n.versions)

abbrev pub need_of : Layout → ℕ → File → List ℕ
need_of l at f = need_at (offset_after_entry_names l at f) f.lib_name (needs_of f)

abbrev pub needs_from : Layout → ℕ → List File → List ℕ
needs_from l at [] = []
needs_from l at (f ∷ fs) = need_of l at f ++ needs_from l (next_dynstr l at f) fs

-- the table of a group's libraries; the group's strings begin at the layout's offset
unfoldable pub group_needs : Layout → Group → List ℕ
group_needs l g = if needs_dynsym l.kind then needs_from l g.dynstr_start g.files else []
