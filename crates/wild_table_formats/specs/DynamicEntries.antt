-- The entries of .dynsym (gABI, "Symbol Table").
--   file_symbols l f           the symbols of a file's entries, each with its name and fields
--   entries_at at ns           their entries; the names are consecutive strings from offset at
--   group_symbols l g          all entries of a group
use Rattle.std.specs.Prelude.{ℕ, ◌+◌, ◌-◌, ◌%◌, ◌^◌, if◌then◌else◌, min, List, [], ◌∷◌, ◌++◌, map, Option, Some, None, Result, Ok, Err, slice_get}
use Rattle.wild_records.specs.declared.symtab_entry.SymtabEntry.{SymtabEntry}
use Rattle.wild_types.specs.declared.fault.Fault.{Fault}
use Rattle.wild_types.specs.declared.symbol.Symbol.{Symbol}
use Rattle.wild_types.specs.declared.file.FileRole.{FileRole}
use Rattle.wild_types.specs.declared.file.File.{File}
use Rattle.wild_types.specs.declared.file.Group.{Group}
use Rattle.wild_types.specs.declared.layout.DynamicSymbol.{DynamicSymbol}
use Rattle.wild_types.specs.declared.layout.Layout.{Layout}
use Rattle.wild_needs.specs.DynamicStrings.{text_room, offset_after_string, dynstr_prefix_strings, next_dynstr, undefined_symbols}
use Rattle.wild_types.specs.FileRoles.{is_prelude, is_epilogue}
use Rattle.wild_types.specs.Kinds.{needs_dynsym}
use Rattle.wild_types.specs.Lists.{total}
use Rattle.wild_table_formats.specs.declared.symbols.SymbolFields.{SymbolFields}
use Rattle.wild_table_formats.specs.DynamicFields.{library_attributes, undefined_with, undefined_fields, exported_symbol_fields}

-- a symbol's name, and the other fields of its entry
pub record NamedFields : Type 0 where
  pub name : List ℕ
  pub fields : SymbolFields

-- the fields of the null symbol, which also replace those of a symbol with a fault
abbrev pub no_fields : SymbolFields
no_fields = undefined_with (library_attributes 0)

abbrev pub or_none : Result SymbolFields Fault → SymbolFields
or_none (Ok fields) = fields
or_none (Err f) = no_fields

abbrev pub listed_of : Layout → ℕ → Option Symbol → Result SymbolFields Fault
listed_of l i None = Ok no_fields
listed_of l i (Some s) = exported_symbol_fields l i s

abbrev pub listed : Layout → DynamicSymbol → NamedFields
listed l d = record { name = d.name; fields = or_none (listed_of l d.symbol (slice_get l.symbols d.symbol)) }

abbrev pub undefined : FileRole → Symbol → NamedFields
undefined role s = record { name = s.name; fields = undefined_fields role s }

-- the symbols of a file's entries; the exported symbols belong to the last file
abbrev pub file_symbols : Layout → File → List NamedFields
file_symbols l f = if is_epilogue f.role then map (listed l) l.dynsyms else map (undefined f.role) (undefined_symbols l.symbols f)

-- an entry whose name is at an offset of the string table
abbrev pub entry_at : ℕ → SymbolFields → SymtabEntry
entry_at at fields = record {
  name = at % 2 ^ 32;
  info = fields.attributes.info;
  other = fields.attributes.other;
  section = fields.section;
  value = fields.value;
  size = fields.attributes.size;
}

-- entries whose names are consecutive strings
unfoldable pub entries_at : ℕ → List NamedFields → List SymtabEntry
entries_at at [] = []
entries_at at (n ∷ ns) = entry_at at n.fields ∷ entries_at (offset_after_string at n.name) ns

-- the null symbol, an entry of zeros, which belongs to the first file
abbrev pub null_entries : File → List SymtabEntry
null_entries f = if is_prelude f.role then entry_at 0 no_fields ∷ [] else []

-- the offset after a file's strings that are not symbol names, at most 2^64 - 1
abbrev pub offset_after_lead : Layout → ℕ → File → ℕ
offset_after_lead l at f = min (2 ^ 64 - 1) (at + total text_room (dynstr_prefix_strings l f))

-- the entries of a file whose strings begin at offset at
abbrev pub file_entries : Layout → ℕ → File → List SymtabEntry
file_entries l at f = null_entries f ++ entries_at (offset_after_lead l at f) (file_symbols l f)

abbrev pub entries_from : Layout → ℕ → List File → List SymtabEntry
entries_from l at [] = []
entries_from l at (f ∷ fs) = file_entries l at f ++ entries_from l (next_dynstr l at f) fs

-- the entries of a group; its strings begin at the layout's offset
unfoldable pub group_symbols : Layout → Group → List SymtabEntry
group_symbols l g = if needs_dynsym l.kind then entries_from l g.dynstr_start g.files else []
