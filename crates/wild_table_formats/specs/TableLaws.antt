-- The lengths of `.symtab` and of its strings, and what a reader finds in them (gABI, "Symbol Table", "String Table").
--   side_count local        the number of local entries of a file, or of its other ones
--   LengthsOfSides          there are as many local, or other, entries as such symbols
--   SidesOfFiles            a file has as many of them as wild_needs counts
--   SidesOfGroups           a group has as many as its files
--   LengthsOfIndexes        there are as many extended section indexes; IndexesHave4Bytes: each has 4 bytes
--   NamesOfFiles            the names of a file's entries are its strings; NamesOfGroups: those of a group are its files'
--   LengthsOfTexts          a file's strings have their bytes and a zero each
--   SideEntriesAreAtOffsets              local or other entry k is at offset 24 k of its list, and its st_name is the offset of its name
--   SidesAreRead            a reader finds it there
use Rattle.std.specs.Prelude.{◌≡◌, ℕ, ◌+◌, ◌*◌, ◌<◌, ◌≤◌, ◌^◌, Bool, true, false, List, length, Option, Some, None, option_to_list, All, slice_index_or}
use Rattle.std.specs.List.{filter, flat_map}
use Rattle.wild_words.specs.Words.{HasBytesAt}
use Rattle.wild_words.specs.Record.{spell}
use Rattle.wild_records.specs.declared.symtab_entry.SymtabEntry.{SymtabEntry}
use Rattle.wild_records.specs.SymtabEntry.{symtab_entry_size, symtab_entry_fields, symtab_entry_at}
use Rattle.wild_types.specs.declared.file.File.{File}
use Rattle.wild_types.specs.declared.file.Group.{Group}
use Rattle.wild_types.specs.declared.layout.Layout.{Layout}
use Rattle.wild_needs.specs.DynamicStrings.{text_room}
use Rattle.wild_types.specs.Lists.{total}
use Rattle.wild_needs.specs.TableSymbols.{local_count, global_count, table_strings}
use Rattle.wild_table_formats.specs.Strings.{string, string_bytes}
use Rattle.wild_table_formats.specs.Symbols.{symbol_bytes}
use Rattle.wild_table_formats.specs.DynamicEntries.{entry_at}
use Rattle.wild_table_formats.specs.TableEntries.{NamedEntry, is_side, file_table, group_table, side_entries, table_entries, long_indexes, index_bytes}

-- ---- counts

-- the number of local entries of a file, or of its other ones
abbrev pub side_count : Bool → Layout → File → ℕ
side_count true = local_count
side_count false = global_count

-- there are as many local, or other, entries as such symbols
abbrev pub LengthsOfSides : Type 0
LengthsOfSides = (local : Bool) (at : ℕ) (ns : List NamedEntry) → length (side_entries local at ns) ≡ length (filter (is_side local) ns)

-- a file has as many of them as wild_needs counts
abbrev pub SidesOfFiles : Type 0
SidesOfFiles = (local : Bool) (l : Layout) (f : File) → length (filter (is_side local) (file_table l f)) ≡ side_count local l f

-- a group has as many as its files
abbrev pub SidesOfGroups : Type 0
SidesOfGroups = (local : Bool) (l : Layout) (g : Group) → length (table_entries l local g) ≡ total (side_count local l) g.files

-- there are as many extended section indexes as local, or other, symbols
abbrev pub LengthsOfIndexes : Type 0
LengthsOfIndexes = (local : Bool) (ns : List NamedEntry) → length (long_indexes local ns) ≡ length (filter (is_side local) ns)

-- each has 4 bytes
abbrev pub IndexesHave4Bytes : Type 0
IndexesHave4Bytes = (ns : List ℕ) → length (index_bytes ns) ≡ 4 * length ns

-- ---- names

abbrev pub names_of : List NamedEntry → List (List ℕ)
names_of ns = flat_map (λ (n : NamedEntry). option_to_list n.name) ns

-- the names of a file's entries are its strings
abbrev pub NamesOfFiles : Type 0
NamesOfFiles = (l : Layout) (f : File) → names_of (file_table l f) ≡ table_strings l f

-- those of a group are its files'
abbrev pub NamesOfGroups : Type 0
NamesOfGroups = (l : Layout) (g : Group) → names_of (group_table l g) ≡ flat_map (table_strings l) g.files

-- a file's strings have their bytes and a zero each
abbrev pub LengthsOfTexts : Type 0
LengthsOfTexts = (l : Layout) (f : File) → length (string_bytes (table_strings l f)) ≡ total text_room (table_strings l f)

-- ---- reading

-- the name, with a zero at its end, is at this offset; without a name the offset is 0, that of the empty string
abbrev pub NameIsAt : List ℕ → ℕ → Option (List ℕ) → Type 0
NameIsAt strings at None = at ≡ 0
NameIsAt strings at (Some name) = HasBytesAt strings at (string name)

-- at this offset is the entry of the symbol, and its st_name is the offset of the symbol's name
pub record EntryIsAt (table : List ℕ) (place : ℕ) (strings : List ℕ) (n : NamedEntry) : Type 0 where
  pub at : ℕ
  pub small : at < 2 ^ 32
  pub entry : HasBytesAt table place (spell (symtab_entry_fields (entry_at at n.fields.fields)))
  pub name : NameIsAt strings at n.name

-- if a table has the local, or the other, entries, and a string table the names of all below 2^32, entry k is at offset 24 k, and its
-- st_name is the offset of its name
abbrev pub SideEntriesAreAtOffsets : Type 0
SideEntriesAreAtOffsets = (local : Bool) (at : ℕ) (ns : List NamedEntry) (table : List ℕ) (from : ℕ) (strings : List ℕ) (k : ℕ) (d : NamedEntry) → at + length (string_bytes (names_of ns)) ≤ 2 ^ 32
    → HasBytesAt table from (symbol_bytes (side_entries local at ns)) → HasBytesAt strings at (string_bytes (names_of ns)) → k < length (filter (is_side local) ns)
    → EntryIsAt table (from + symtab_entry_size * k) strings (slice_index_or (filter (is_side local) ns) k d)

-- the symbol's numbers fit in the fields of an entry (gABI, "Symbol Table")
pub record NamedEntryFits (n : NamedEntry) : Type 0 where
  pub info : n.fields.fields.attributes.info < 2 ^ 8
  pub other : n.fields.fields.attributes.other < 2 ^ 8
  pub section : n.fields.fields.section < 2 ^ 16
  pub value : n.fields.fields.value < 2 ^ 64
  pub size : n.fields.fields.attributes.size < 2 ^ 64

-- the entry has the fields of the symbol, and its st_name is the offset of the symbol's name
pub record IsEntryOf (strings : List ℕ) (n : NamedEntry) (e : SymtabEntry) : Type 0 where
  pub name : NameIsAt strings e.name n.name
  pub info : e.info ≡ n.fields.fields.attributes.info
  pub other : e.other ≡ n.fields.fields.attributes.other
  pub section : e.section ≡ n.fields.fields.section
  pub value : e.value ≡ n.fields.fields.value
  pub size : e.size ≡ n.fields.fields.attributes.size

-- a reader finds the entry there
abbrev pub SidesAreRead : Type 0
SidesAreRead = (local : Bool) (at : ℕ) (ns : List NamedEntry) (table : List ℕ) (from : ℕ) (strings : List ℕ) (k : ℕ) (d : NamedEntry) → All NamedEntryFits ns → at + length (string_bytes (names_of ns)) ≤ 2 ^ 32
    → HasBytesAt table from (symbol_bytes (side_entries local at ns)) → HasBytesAt strings at (string_bytes (names_of ns)) → k < length (filter (is_side local) ns)
    → IsEntryOf strings (slice_index_or (filter (is_side local) ns) k d) (symtab_entry_at table (from + symtab_entry_size * k))
