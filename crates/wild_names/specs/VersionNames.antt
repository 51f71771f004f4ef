-- The versions of dynamic symbols beside the symbols, and the names of versions in the string table.
--   EachEntryHasAVersion   a group has a version for each entry of its dynamic symbol table
--   HasStrings l f ss at       the strings of a file stand in the string table from an offset on
--   DefinitionsAreNamed        the names of the versions that the output defines are where their records say
--   NeedsAreNamed              so are those of libraries, and of the versions that are needed of each
use Rattle.std.specs.Prelude.{◌≡◌, ℕ, ◌^◌, ◌<◌, true, List, length, Some, slice_index_or}
use Rattle.wild_words.specs.Words.{HasBytesAt}
use Rattle.wild_types.specs.declared.file.File.{File}
use Rattle.wild_types.specs.declared.file.Group.{Group}
use Rattle.wild_types.specs.declared.layout.Layout.{Layout}
use Rattle.wild_types.specs.declared.file.NeededVersion.{NeededVersion}
use Rattle.wild_types.specs.declared.file.VersionNeeds.{VersionNeeds}
use Rattle.wild_types.specs.declared.layout.VersionDefinition.{VersionDefinition}
use Rattle.wild_needs.specs.DynamicStrings.{file_strings, string_start}
use Rattle.wild_types.specs.FileRoles.{is_epilogue}
use Rattle.wild_types.specs.Kinds.{needs_dynsym}
use Rattle.wild_table_formats.specs.Strings.{string, string_bytes}
use Rattle.wild_table_formats.specs.VersionChain.{name_at}
use Rattle.wild_table_formats.specs.DynamicEntries.{group_symbols}
use Rattle.wild_table_formats.specs.SymbolVersions.{group_versions}
use Rattle.wild_table_formats.specs.VersionDefinitions.{version_name}
use Rattle.wild_needs.specs.Versions.{needs_of}
use Rattle.wild_table_formats.specs.VersionNeeds.{need_bytes}
use Rattle.wild_table_formats.specs.VersionNames.{definition_offsets, library_offset, need_offsets, need_of}

-- a group has a version for each of its entries in .dynsym
abbrev pub EachEntryHasAVersion : Type 0
EachEntryHasAVersion = (l : Layout) (g : Group) → length (group_symbols l g) ≡ length (group_versions l g)

-- the strings of a file are in the string table from offset at on, and the table has fewer than 2^32 bytes
pub record HasStrings (l : Layout) (f : File) (strings : List ℕ) (at : ℕ) : Type 0 where
  pub small : length strings < 2 ^ 32
  pub stand : HasBytesAt strings at (string_bytes (file_strings l f))

-- the name offset of version k points to its name, which for version 0 is the soname if there is one
abbrev pub DefinitionsAreNamed : Type 0
DefinitionsAreNamed = (l : Layout) (f : File) (strings : List ℕ) → needs_dynsym l.kind ≡ true → is_epilogue f.role ≡ true → HasStrings l f strings (string_start l)
    → (k : ℕ) (d : VersionDefinition) → k < length l.verdefs → HasBytesAt strings (name_at (definition_offsets l f) k) (string (version_name l.options.soname k (slice_index_or l.verdefs k d).name))

-- the bytes of a library's needs: the name offsets of the library and of its versions point to their names
pub record NeedIsNamed (l : Layout) (f : File) (n : VersionNeeds) (strings : List ℕ) (at : ℕ) : Type 0 where
  pub bytes : need_of l at f ≡ need_bytes (library_offset l at f) (need_offsets l at f n) n
  pub library : HasBytesAt strings (library_offset l at f) (string f.lib_name)
  pub versions : (k : ℕ) (v : NeededVersion) → k < length n.versions → HasBytesAt strings (name_at (need_offsets l at f n) k) (string (slice_index_or n.versions k v).name)

abbrev pub NeedsAreNamed : Type 0
NeedsAreNamed = (l : Layout) (f : File) (n : VersionNeeds) (strings : List ℕ) (at : ℕ) → needs_dynsym l.kind ≡ true → needs_of f ≡ Some n → HasStrings l f strings at → NeedIsNamed l f n strings at
