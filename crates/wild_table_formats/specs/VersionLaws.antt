-- What a reader finds in the tables that are written here.
--   LengthsOfVersions, LengthsOfDefinitions, LengthsOfNeeds   the lengths of the tables
--   LengthsOfSymbolVersions, LengthsOfFileDefinitions, LengthsOfGroupNeeds   the lengths of what files and groups contribute
--   VersionsAreRead            the version of symbol k is read at offset 2 k
--   DefinitionsAreRead         a reader finds exactly the versions that the output defines, in order
--   NeedsAreRead               a reader finds exactly the libraries, and the versions that are needed of each
use Rattle.std.specs.Prelude.{◌≡◌, ℕ, ◌+◌, ◌*◌, ◌^◌, ◌<◌, ◌≤◌, ◌==◌, true, false, if◌then◌else◌, List, [], ◌∷◌, length, map, Option, Some, None, All, slice_index_or}
use Rattle.std.specs.List.{flat_map}
use Rattle.wild_words.specs.Words.{HasBytesAt}
use Rattle.wild_records.specs.Abi.Version.{ver_flg_base}
use Rattle.wild_records.specs.Hashes.{sysv_hash}
use Rattle.wild_records.specs.Versyms.{versym_size, versym_at}
use Rattle.wild_types.specs.declared.file.File.{File}
use Rattle.wild_types.specs.declared.file.Group.{Group}
use Rattle.wild_types.specs.declared.layout.Layout.{Layout}
use Rattle.wild_types.specs.declared.file.NeededVersion.{NeededVersion}
use Rattle.wild_types.specs.declared.file.VersionNeeds.{VersionNeeds}
use Rattle.wild_types.specs.declared.layout.VersionDefinition.{VersionDefinition}
use Rattle.wild_types.specs.Lists.{total}
use Rattle.wild_needs.specs.Needs.{version_count}
use Rattle.wild_table_formats.specs.VersionChain.{name_at}
use Rattle.wild_table_formats.specs.SymbolVersions.{version_bytes}
use Rattle.wild_table_formats.specs.VersionDefinitions.{version_name, definition_table}
use Rattle.wild_needs.specs.Versions.{definitions_size, definitions_room, need_size, needs_room}
use Rattle.wild_table_formats.specs.VersionNeeds.{need_bytes}
use Rattle.wild_table_formats.specs.VersionNames.{symbol_versions, file_definitions, group_needs}
use Rattle.wild_table_formats.specs.VersionReading.{FoundDefinition, FoundNeed, Library, definitions_from, needs_from}

-- ---- lengths

-- the version of a symbol has 2 bytes
abbrev pub LengthsOfVersions : Type 0
LengthsOfVersions = (vs : List ℕ) → length (version_bytes vs) ≡ versym_size * length vs

-- a version that is defined has 28 bytes, or 36 with a parent
abbrev pub LengthsOfDefinitions : Type 0
LengthsOfDefinitions = (names : List ℕ) (soname : Option (List ℕ)) (ds : List VersionDefinition) → length (definition_table names soname ds) ≡ definitions_size ds

-- the record of a library has 16 bytes, and so has that of each version that is needed of it
abbrev pub LengthsOfNeeds : Type 0
LengthsOfNeeds = (file : ℕ) (names : List ℕ) (n : VersionNeeds) → length (need_bytes file names n) ≡ need_size n

-- the versions of a file's symbols, the versions that the output defines, and those that are needed of a group's libraries have the
-- lengths that wild_needs computes
abbrev pub LengthsOfSymbolVersions : Type 0
LengthsOfSymbolVersions = (l : Layout) (f : File) → length (version_bytes (symbol_versions l f)) ≡ versym_size * version_count l f

abbrev pub LengthsOfFileDefinitions : Type 0
LengthsOfFileDefinitions = (l : Layout) (f : File) → length (file_definitions l f) ≡ definitions_room l f

abbrev pub LengthsOfGroupNeeds : Type 0
LengthsOfGroupNeeds = (l : Layout) (g : Group) → length (group_needs l g) ≡ total (needs_room l) g.files

-- ---- symbols

-- the version of symbol k is read 2 k bytes after the start of the table
abbrev pub VersionsAreRead : Type 0
VersionsAreRead = (whole vs : List ℕ) (at k d : ℕ) → All (λ v. v < 2 ^ 16) vs → HasBytesAt whole at (version_bytes vs) → k < length vs → (versym_at whole (at + versym_size * k)).version ≡ slice_index_or vs k d

-- ---- definitions

-- the offsets of a version's names: its own, then its parent's
abbrev pub name_offsets : List ℕ → ℕ → Option ℕ → List ℕ
name_offsets names i None = name_at names i ∷ []
name_offsets names i (Some p) = name_at names i ∷ name_at names p ∷ []

-- version i, as a reader must find it
abbrev pub expected_definition : List ℕ → Option (List ℕ) → ℕ → VersionDefinition → FoundDefinition
expected_definition names soname i d = record {
  flags = if i == 0 then ver_flg_base else 0;
  index = i + 1;
  hash = sysv_hash (version_name soname i d.name);
  names = name_offsets names i d.parent;
}

-- versions, the first of which has index i in the list
abbrev pub expected_definitions : List ℕ → Option (List ℕ) → ℕ → List VersionDefinition → List FoundDefinition
expected_definitions names soname i [] = []
expected_definitions names soname i (d ∷ ds) = expected_definition names soname i d ∷ expected_definitions names soname (i + 1) ds

-- a reader with a limit of n versions finds exactly those that are defined; the last record ends the walk, not the limit
abbrev pub DefinitionsAreRead : Type 0
DefinitionsAreRead = (whole names : List ℕ) (soname : Option (List ℕ)) (ds : List VersionDefinition) (at n : ℕ) → All (λ x. x < 2 ^ 32) names → length ds < 2 ^ 16 → 1 ≤ length ds → length ds ≤ n
    → HasBytesAt whole at (definition_table names soname ds) → definitions_from whole n at ≡ expected_definitions names soname 0 ds

-- ---- needs

-- what is needed of a library, the offset of its name, and the offsets of its versions' names
pub record Need : Type 0 where
  pub file : ℕ
  pub names : List ℕ
  pub needs : VersionNeeds

-- its numbers fit in their fields
pub record NeedFits (n : Need) : Type 0 where
  pub file : n.file < 2 ^ 32
  pub names : All (λ x. x < 2 ^ 32) n.names
  pub indexes : All (λ (v : NeededVersion). v.index < 2 ^ 16) n.needs.versions
  pub few : length n.needs.versions < 2 ^ 16

-- the bytes of all libraries' needs
abbrev pub needs_bytes : List Need → List ℕ
needs_bytes ns = flat_map (λ (n : Need). need_bytes n.file n.names n.needs) ns

-- the last library is marked as the last, and no other is
abbrev pub OnlyLastIsMarked : List Need → Type 0
OnlyLastIsMarked [] = Unit {0}
OnlyLastIsMarked (n ∷ []) = n.needs.last ≡ true
OnlyLastIsMarked (n ∷ m ∷ ns) = (n.needs.last ≡ false) × OnlyLastIsMarked (m ∷ ns)

-- version i of a library, as a reader must find it
abbrev pub expected_need : List ℕ → ℕ → NeededVersion → FoundNeed
expected_need names i v = record { hash = sysv_hash v.name; flags = 0; index = v.index; name = name_at names i }

-- versions of a library, the first of which has index i in the list
abbrev pub all_needed : List ℕ → ℕ → List NeededVersion → List FoundNeed
all_needed names i [] = []
all_needed names i (v ∷ vs) = expected_need names i v ∷ all_needed names (i + 1) vs

abbrev pub library_of : Need → Library
library_of n = record { file = n.file; versions = all_needed n.names 0 n.needs.versions }

-- a reader with a limit of n libraries finds exactly these, each with its versions; the last record ends the walk, not the limit
abbrev pub NeedsAreRead : Type 0
NeedsAreRead = (whole : List ℕ) (ns : List Need) (at n : ℕ) → All NeedFits ns → OnlyLastIsMarked ns → 1 ≤ length ns → length ns ≤ n
    → HasBytesAt whole at (needs_bytes ns) → needs_from whole n at ≡ map library_of ns
