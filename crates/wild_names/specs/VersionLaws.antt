-- The versions of the dynamic symbols in an image, those that the output defines, and those that it needs from libraries (LSB,
-- "Symbol Versioning").
--   table_versions l       the versions of the symbols of `table_symbols`, in the same order
--   VersionNumbersFit l    the numbers of versions are in the ranges of their types
--   VersionsAreWritten          the version of each dynamic symbol is read at its position
--   DefinitionsAreWritten       a reader finds exactly the versions that the output defines, and their names
--   libraries_with_needs l           the libraries from which versions are needed, in order, each with these versions
--   NeedsAreWritten             a reader finds exactly these libraries and versions, and their names
use Rattle.std.specs.Prelude.{◌≡◌, ℕ, ◌+◌, ◌*◌, ◌^◌, ◌<◌, ◌≤◌, true, false, List, [], ◌∷◌, ◌++◌, length, map, Option, Some, None, All, slice_get}
use Rattle.std.specs.List.{flat_map}
use Rattle.wild_records.specs.Abi.Version.{ver_ndx_local}
use Rattle.wild_records.specs.Versyms.{versym_size, versym_at}
use Rattle.wild_types.specs.declared.part.Part.{Part}
use Rattle.wild_types.specs.declared.part.Role.TheVariants as role
use Rattle.wild_types.specs.declared.file.File.{File}
use Rattle.wild_types.specs.declared.file.Group.{Group}
use Rattle.wild_types.specs.declared.file.NeededVersion.{NeededVersion}
use Rattle.wild_types.specs.declared.file.VersionNeeds.{VersionNeeds}
use Rattle.wild_types.specs.declared.layout.DynamicSymbol.{DynamicSymbol}
use Rattle.wild_types.specs.declared.layout.Layout.{Layout}
use Rattle.wild_types.specs.declared.layout.VersionDefinition.{VersionDefinition}
use Rattle.wild_types.specs.declared.symbol.Symbol.{Symbol}
use Rattle.wild_needs.specs.DynamicStrings.{undefined_symbols}
use Rattle.wild_types.specs.Kinds.{needs_dynsym}
use Rattle.wild_types.specs.Lists.{total}
use Rattle.wild_types.specs.Lookups.{files_of, is_header_only_at}
use Rattle.wild_types.specs.Parts.{part_with}
use Rattle.wild_needs.specs.Versions.{definitions_size, need_size, needs_of}
use Rattle.wild_table_formats.specs.VersionChain.{name_at}
use Rattle.wild_table_formats.specs.VersionDefinitions.{version_name}
use Rattle.wild_table_formats.specs.VersionLaws.{expected_definitions, Need, library_of}
use Rattle.wild_table_formats.specs.VersionReading.{definitions_from, needs_from}
use Rattle.wild_table_formats.specs.SymbolVersions.{version_of, exported_version}
use Rattle.wild_layout.specs.Geometry.{IsLaidOut}
use Rattle.wild_layout.specs.Image.{bytes}
use Rattle.wild_names.specs.Laws.{table_symbols, IsNamed}

-- ---- numbers

-- the indexes of the versions that are needed from a file
abbrev pub IndexesFit : File → Type 0
IndexesFit f = (n : VersionNeeds) → f.verneed ≡ Some n → All (λ (v : NeededVersion). v.index < 2 ^ 16) n.versions

-- the numbers of versions have 16 bits, as their types require
pub record VersionNumbersFit (l : Layout) : Type 0 where
  pub symbols : All (λ (s : Symbol). s.version < 2 ^ 16) l.symbols
  pub listed : All (λ (d : DynamicSymbol). d.version < 2 ^ 16) l.dynsyms
  pub needed : All (λ (g : Group). All IndexesFit g.files) l.groups

-- ---- the versions of symbols

-- in file order the versions of the symbols that other modules define, then those of the symbols that other modules see
abbrev pub table_versions : Layout → List ℕ
table_versions l = flat_map (λ (f : File). map (version_of f.role) (undefined_symbols l.symbols f)) (files_of l.groups) ++ map exported_version l.dynsyms

-- each dynamic symbol has its version, after that of the null symbol, and there are no others
pub record VersionsAreThere (l : Layout) (table : Part) : Type 0 where
  pub beside : length (table_versions l) ≡ length (table_symbols l)
  pub whole : table.size ≡ versym_size * (length (table_symbols l) + 1)
  pub null : (versym_at (bytes l) table.offset).version ≡ ver_ndx_local
  pub each : (k v : ℕ) → slice_get (table_versions l) k ≡ Some v → (versym_at (bytes l) (table.offset + versym_size * (k + 1))).version ≡ v

-- this holds in the image of a layout whose clauses and shares hold, if the option requires versions and the table is written
abbrev pub VersionsAreWritten : Type 0
VersionsAreWritten = (l : Layout) → IsLaidOut l → VersionNumbersFit l → needs_dynsym l.kind ≡ true → l.options.versions ≡ true → (table : Part) → part_with role.GnuVersion l.parts ≡ Some table → is_header_only_at l table.section ≡ false → VersionsAreThere l table

-- ---- the versions that the output defines

-- A reader whose limit is that many versions or more finds exactly these, with the offsets of their names, and each name is at
-- its offset. The first is the output's own name, if it has one; a parent comes before its children.
pub record DefinitionsAreThere (l : Layout) (table strings : Part) : Type 0 where
  pub names : List ℕ
  pub some : 1 ≤ length l.verdefs
  pub whole : table.size ≡ definitions_size l.verdefs
  pub found : (n : ℕ) → length l.verdefs ≤ n → definitions_from (bytes l) n table.offset ≡ expected_definitions names l.options.soname 0 l.verdefs
  pub named : (k : ℕ) (d : VersionDefinition) → slice_get l.verdefs k ≡ Some d → IsNamed l strings (name_at names k) (version_name l.options.soname k d.name)
  pub parents : (k : ℕ) (d : VersionDefinition) (p : ℕ) → slice_get l.verdefs k ≡ Some d → d.parent ≡ Some p → p < k

-- this holds in the image of a layout whose clauses and shares hold, if both are written
abbrev pub DefinitionsAreWritten : Type 0
DefinitionsAreWritten = (l : Layout) → IsLaidOut l → needs_dynsym l.kind ≡ true → (table strings : Part) → part_with role.GnuVersionD l.parts ≡ Some table → part_with role.Dynstr l.parts ≡ Some strings → is_header_only_at l table.section ≡ false → is_header_only_at l strings.section ≡ false → DefinitionsAreThere l table strings

-- ---- the versions that are needed from libraries

-- a library, and the versions that are needed from it
pub record LibraryNeeds : Type 0 where
  pub file : File
  pub needs : VersionNeeds

-- those of a library, if versions are needed from it
abbrev pub needs_of_library : File → Option VersionNeeds → List LibraryNeeds
needs_of_library f None = []
needs_of_library f (Some n) = record { file = f; needs = n } ∷ []

-- the libraries from which versions are needed, in order
abbrev pub libraries_with_needs : Layout → List LibraryNeeds
libraries_with_needs l = flat_map (λ (f : File). needs_of_library f (needs_of f)) (files_of l.groups)

-- the record of a library has the versions that are needed from it, and both names are at their offsets
pub record RecordsNeeds (l : Layout) (strings : Part) (n : Need) (w : LibraryNeeds) : Type 0 where
  pub same : n.needs ≡ w.needs
  pub library : IsNamed l strings n.file w.file.lib_name
  pub versions : (k : ℕ) (v : NeededVersion) → slice_get w.needs.versions k ≡ Some v → IsNamed l strings (name_at n.names k) v.name

-- record k of these is the library's
pub record HasNeeds (l : Layout) (strings : Part) (ns : List Need) (k : ℕ) (w : LibraryNeeds) : Type 0 where
  pub need : Need
  pub is : slice_get ns k ≡ Some need
  pub tells : RecordsNeeds l strings need w

-- a reader whose limit is that many libraries or more finds exactly these, each with the versions that are needed from it
pub record NeedsAreThere (l : Layout) (table strings : Part) : Type 0 where
  pub needs : List Need
  pub count : length needs ≡ length (libraries_with_needs l)
  pub whole : table.size ≡ total (λ (w : LibraryNeeds). need_size w.needs) (libraries_with_needs l)
  pub found : (n : ℕ) → length needs ≤ n → needs_from (bytes l) n table.offset ≡ map library_of needs
  pub each : (k : ℕ) (w : LibraryNeeds) → slice_get (libraries_with_needs l) k ≡ Some w → HasNeeds l strings needs k w

-- this holds in the image of a layout whose clauses and shares hold, if both are written
abbrev pub NeedsAreWritten : Type 0
NeedsAreWritten = (l : Layout) → IsLaidOut l → VersionNumbersFit l → needs_dynsym l.kind ≡ true → 1 ≤ length (libraries_with_needs l) → (table strings : Part) → part_with role.GnuVersionR l.parts ≡ Some table → part_with role.Dynstr l.parts ≡ Some strings → is_header_only_at l table.section ≡ false → is_header_only_at l strings.section ≡ false → NeedsAreThere l table strings
