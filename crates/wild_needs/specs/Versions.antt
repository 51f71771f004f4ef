-- The sizes of version tables (LSB, "Symbol Versioning").
--   definition_size d    the record of a version that the output defines, with its names
--   need_size n          the record of a library, with the versions that are needed from it
--   definitions_room l, needs_room l f   the bytes of both that a file writes
--   need_count l         the number of libraries from which versions are needed
--   version_names l f    the strings of a file's versions, which are no name of a symbol
--   versions_needed ..   the number of needed versions
--   versions_fit l       each version has a 16-bit index
use Rattle.std.specs.Prelude.{ℕ, ◌+◌, Bool, true, ◌&&◌, if◌then◌else◌, nat_le, List, [], ◌∷◌, length, Option, Some, None, ◌*◌, false, map, drop}
use Rattle.std.specs.List.{filter}
use Rattle.wild_types.specs.declared.file.VersionNeeds.{VersionNeeds}
use Rattle.wild_types.specs.declared.file.File.{File}
use Rattle.wild_types.specs.declared.file.Group.{Group}
use Rattle.wild_types.specs.declared.layout.VersionDefinition.{VersionDefinition}
use Rattle.wild_types.specs.declared.layout.Layout.{Layout}
use Rattle.wild_types.specs.Lists.{total}
use Rattle.wild_types.specs.Lookups.{files_of}
use Rattle.wild_records.specs.Verdefs.{verdef_size, verdaux_size}
use Rattle.wild_records.specs.Verneeds.{verneed_size, vernaux_size}
use Rattle.wild_types.specs.declared.file.NeededVersion.{NeededVersion}
use Rattle.wild_types.specs.FileRoles.{is_epilogue, is_library}
use Rattle.wild_types.specs.Kinds.{needs_dynsym}

-- ---- versions that the output defines

-- the record and its name, and the parent's name if it has one
abbrev pub size_with : Option ℕ → ℕ
size_with None = verdef_size + verdaux_size
size_with (Some p) = verdef_size + (verdaux_size + verdaux_size)

abbrev pub definition_size : VersionDefinition → ℕ
definition_size d = size_with d.parent

-- the size of version records in bytes
abbrev pub definitions_size : List VersionDefinition → ℕ
definitions_size ds = total definition_size ds

-- the last file writes them, if the output has dynamic symbols
abbrev pub definitions_room : Layout → File → ℕ
definitions_room l f = if needs_dynsym l.kind && is_epilogue f.role then definitions_size l.verdefs else 0

-- ---- versions that are needed from libraries

-- the record and its versions
abbrev pub need_size : VersionNeeds → ℕ
need_size n = verneed_size + vernaux_size * length n.versions

abbrev pub room_of : Option VersionNeeds → ℕ
room_of None = 0
room_of (Some n) = need_size n

-- the versions that are needed from a file, if it is a library
abbrev pub needs_of : File → Option VersionNeeds
needs_of f = if is_library f.role then f.verneed else None

abbrev pub needs_room : Layout → File → ℕ
needs_room l f = if needs_dynsym l.kind then room_of (needs_of f) else 0

abbrev pub is_needed : Option VersionNeeds → Bool
is_needed None = false
is_needed (Some n) = true

abbrev pub has_needs : File → Bool
has_needs f = is_needed (needs_of f)

-- the number of libraries from which versions are needed
abbrev pub need_count : Layout → ℕ
need_count l = length (filter has_needs (files_of l.groups))

-- ---- their strings

abbrev pub needed_names : List NeededVersion → List (List ℕ)
needed_names vs = map (λ (v : NeededVersion). v.name) vs

-- a library's name a second time, and the names of its versions
abbrev pub need_names : List ℕ → Option VersionNeeds → List (List ℕ)
need_names library None = []
need_names library (Some n) = library ∷ needed_names n.versions

abbrev pub definition_names : List VersionDefinition → List (List ℕ)
definition_names ds = map (λ (d : VersionDefinition). d.name) ds

-- the first version is that of the output itself: if the layout has a soname, the version uses the soname's string
abbrev pub own_names : Option (List ℕ) → List VersionDefinition → List (List ℕ)
own_names None ds = definition_names ds
own_names (Some soname) ds = definition_names (drop 1 ds)

-- the strings of a file's versions
abbrev pub version_names : Layout → File → List (List ℕ)
version_names l f = if is_epilogue f.role then own_names l.options.soname l.verdefs else need_names f.lib_name (needs_of f)

abbrev pub length_of : Option VersionNeeds → ℕ
length_of None = 0
length_of (Some n) = length n.versions

-- the number of versions needed from a file
abbrev pub file_versions : File → ℕ
file_versions f = length_of (needs_of f)

-- the number of versions needed from a group
abbrev pub group_versions : Group → ℕ
group_versions g = total file_versions g.files

-- the number of versions needed from all libraries
abbrev pub versions_needed : Layout → ℕ
versions_needed l = total file_versions (files_of l.groups)

-- a version index has 16 bits (LSB, vd_ndx, vn_cnt)
abbrev pub most_versions : ℕ
most_versions = 65535

abbrev pub versions_fit : Layout → Bool
versions_fit l = nat_le (length l.verdefs) most_versions && (nat_le (need_count l) most_versions && nat_le (versions_needed l) most_versions)
