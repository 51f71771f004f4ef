-- The strings of the dynamic string table, and their offsets (gABI, "String Table", "Symbol Table", "Dynamic Section").
--   named_strings l           the strings to which entries of the last file refer, each with the number of its entry
--   dynamic_strings l         the strings without the numbers
--   epilogue_strings l        their bytes in the string table, each with a terminating zero
--   undefined_symbols ss f    the symbols of a file that other modules define and that have an entry for it
--   entry_names l f           the names of a file's entries in the dynamic symbol table
--   file_strings l f          the strings of a file: first those that are no name of a symbol or version, then these names
--   strings_room l f          the size of these strings in bytes
--   needed_entries l g        the entries of a group's libraries in the dynamic section
--   string_start l            the offset of the last file's strings in the table
use Rattle.std.specs.Prelude.{ℕ, ◌+◌, ◌-◌, ◌^◌, if◌then◌else◌, min, List, [], ◌∷◌, ◌++◌, length, map, flat_map, Option, Some, None, slice_get}
use Rattle.std.specs.List.{filter}
use Rattle.wild_records.specs.Abi.Dynamic.{dt_needed, dt_soname, dt_rpath, dt_runpath, dt_auxiliary}
use Rattle.wild_records.specs.declared.dynamic.DynamicEntry.{DynamicEntry}
use Rattle.wild_types.specs.declared.options.Options.{Options}
use Rattle.wild_types.specs.declared.symbol.Symbol.{Symbol}
use Rattle.wild_types.specs.declared.file.FileRole.{FileRole}
use Rattle.wild_types.specs.declared.file.FileRole.TheVariants as file_role
use Rattle.wild_types.specs.declared.file.File.{File}
use Rattle.wild_types.specs.declared.file.Group.{Group}
use Rattle.wild_types.specs.declared.layout.DynamicSymbol.{DynamicSymbol}
use Rattle.wild_types.specs.declared.layout.Layout.{Layout}
use Rattle.wild_types.specs.FileSymbols.{range_of}
use Rattle.wild_needs.specs.DynamicSymbols.{is_undefined_entry}
use Rattle.wild_types.specs.FileRoles.{is_epilogue, is_library}
use Rattle.wild_types.specs.Kinds.{needs_dynamic, needs_dynsym}
use Rattle.wild_types.specs.Lists.{total}
use Rattle.wild_needs.specs.Versions.{version_names}

-- ---- strings to which entries of the last file refer

-- the entry of a search path (gABI, "Dynamic Section": DT_RUNPATH in place of DT_RPATH)
abbrev pub path_number : Options → ℕ
path_number o = if o.new_dtags then dt_runpath else dt_rpath

-- a string and the number of the entry that refers to it
pub record NamedString : Type 0 where
  pub number : ℕ
  pub text : List ℕ

abbrev pub named : ℕ → Option (List ℕ) → List NamedString
named number None = []
named number (Some text) = record { number = number; text = text } ∷ []

abbrev pub auxiliary_string : List ℕ → NamedString
auxiliary_string text = record { number = dt_auxiliary; text = text }

abbrev pub auxiliary_strings : List (List ℕ) → List NamedString
auxiliary_strings texts = map auxiliary_string texts

abbrev pub option_strings : Options → List NamedString
option_strings o = named (path_number o) o.rpath ++ (named dt_soname o.soname ++ auxiliary_strings o.auxiliary)

-- the strings to which entries refer
unfoldable pub named_strings : Layout → List NamedString
named_strings l = if needs_dynamic l.kind then option_strings l.options else []

abbrev pub texts_of : List NamedString → List (List ℕ)
texts_of ss = map (λ (s : NamedString). s.text) ss

-- the strings without the numbers
abbrev pub dynamic_strings : Layout → List (List ℕ)
dynamic_strings l = texts_of (named_strings l)

-- their bytes, each string with a terminating zero (gABI, "String Table")
abbrev pub epilogue_strings : Layout → List ℕ
epilogue_strings l = flat_map (λ text. text ++ 0 ∷ []) (dynamic_strings l)

abbrev pub text_room : List ℕ → ℕ
text_room text = length text + 1

abbrev pub room_of : Option (List ℕ) → ℕ
room_of None = 0
room_of (Some text) = text_room text

-- the number of these bytes
abbrev pub epilogue_string_bytes : Layout → ℕ
epilogue_string_bytes l = total text_room (dynamic_strings l)

-- the offset after a string and its zero, at most 2^64 - 1
abbrev pub offset_after_string : ℕ → List ℕ → ℕ
offset_after_string at text = min (2 ^ 64 - 1) (at + text_room text)

-- the entries of consecutive strings from an offset on, each with a terminating zero
unfoldable pub string_entries : ℕ → List NamedString → List DynamicEntry
string_entries at [] = []
string_entries at (s ∷ ss) = record { tag = s.number; value = at } ∷ string_entries (offset_after_string at s.text) ss

-- ---- the strings of files

-- the symbols of a file that other modules define and that have an entry in the dynamic symbol table for it, in order
abbrev pub undefined_symbols : List Symbol → File → List Symbol
undefined_symbols symbols f = filter (is_undefined_entry f.role) (range_of symbols f)

-- the first strings of a file, which are no name of a symbol or version; by its role:
--   the first file: the empty string, with which the table begins (gABI, "String Table")
--   a library: its name
--   the last file: the strings to which its entries refer
abbrev pub dynstr_prefix_strings : Layout → File → List (List ℕ)
dynstr_prefix_strings l f = leads f.role
  where
    leads : FileRole → List (List ℕ)
    leads file_role.Prelude = [] ∷ []
    leads file_role.Dynamic = f.lib_name ∷ []
    leads file_role.Epilogue = dynamic_strings l
    leads other = []

abbrev pub listed_names : List DynamicSymbol → List (List ℕ)
listed_names ds = map (λ (d : DynamicSymbol). d.name) ds

abbrev pub symbol_names : List Symbol → List (List ℕ)
symbol_names ss = map (λ (s : Symbol). s.name) ss

-- the names of a file's entries in the dynamic symbol table: for the last file those of the list `dynsyms`
abbrev pub entry_names : Layout → File → List (List ℕ)
entry_names l f = if is_epilogue f.role then listed_names l.dynsyms else symbol_names (undefined_symbols l.symbols f)

-- the strings of a file, in order
unfoldable pub file_strings : Layout → File → List (List ℕ)
file_strings l f = if needs_dynsym l.kind then dynstr_prefix_strings l f ++ (entry_names l f ++ version_names l f) else []

-- the size of these strings in bytes
abbrev pub strings_room : Layout → File → ℕ
strings_room l f = total text_room (file_strings l f)

-- ---- their offsets

-- the offset in the table after the strings of a file, at most 2^64 - 1
abbrev pub next_dynstr : Layout → ℕ → File → ℕ
next_dynstr l at f = min (2 ^ 64 - 1) (at + strings_room l f)

-- the entry of a library whose name is at an offset (gABI, "Shared Object Dependencies", DT_NEEDED)
abbrev pub needed_of : ℕ → File → List DynamicEntry
needed_of at f = if is_library f.role then record { tag = dt_needed; value = at } ∷ [] else []

abbrev pub needed_from : Layout → ℕ → List File → List DynamicEntry
needed_from l at [] = []
needed_from l at (f ∷ fs) = needed_of at f ++ needed_from l (next_dynstr l at f) fs

-- the entries of a group's libraries: the layout gives the offset of the group's strings
unfoldable pub needed_entries : Layout → Group → List DynamicEntry
needed_entries l g = if needs_dynamic l.kind then needed_from l g.dynstr_start g.files else []

-- the number of these entries for one file
abbrev pub needed_count : Layout → File → ℕ
needed_count l f = if needs_dynamic l.kind then length (needed_of 0 f) else 0

-- the offset of the strings of the first epilogue file, if the strings of the files begin at an offset
abbrev pub start_among : Layout → ℕ → List File → ℕ
start_among l at [] = at
start_among l at (f ∷ fs) = if is_epilogue f.role then at else start_among l (next_dynstr l at f) fs

abbrev pub start_in : Layout → Option Group → ℕ
start_in l None = 0
start_in l (Some g) = start_among l g.dynstr_start g.files

-- the offset of the last file's strings
unfoldable pub string_start : Layout → ℕ
string_start l = start_in l (slice_get l.groups (length l.groups - 1))
