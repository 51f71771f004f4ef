-- The symbol tables of a group (gABI, "Symbol Table").
--   no_dynamic_symbols l group    empty tables with the sizes of the group's shares of .dynsym and .dynstr
--   no_symbols l group            empty tables with the sizes of the group's shares of .symtab and .strtab
--   entry_with_name name fields            the entry of a symbol; name is the offset of its name
--   long_of s                     the extended section index, if the header index does not fit in st_shndx
--   with_fields local name t w    with a symbol, its extended section index and its name appended
--   with_symbol local name s value a w    the same for a symbol with this value in a section
--   with_copied name section value s w    with a symbol of the layout and its name appended
use Rattle.std.specs.Prelude.{ℕ, ◌/◌, ◌%◌, ◌==◌, ◌||◌, if◌then◌else◌, Bool, true, false, List, [], Option, Some, None, option_to_list, slice_get}
use Rattle.wild_records.specs.Abi.Section.{shn_undef}
use Rattle.wild_records.specs.Abi.Symbol.{stb_local}
use Rattle.wild_records.specs.SymbolSections.{split_index}
use Rattle.wild_records.specs.declared.symtab_entry.SymtabEntry.{SymtabEntry}
use Rattle.wild_records.specs.declared.symbol_section.SymbolSection.{SymbolSection}
use Rattle.wild_records.specs.declared.symbol_section.SymbolSection.TheVariants.{Raw, Index}
use Rattle.wild_types.specs.declared.part.Role.{Role}
use Rattle.wild_types.specs.declared.part.Role.TheVariants as role
use Rattle.wild_types.specs.declared.symbol.Symbol.{Symbol as LaidOut}
use Rattle.wild_types.specs.declared.file.Group.{Group}
use Rattle.wild_types.specs.declared.layout.Layout.{Layout}
use Rattle.wild_types.specs.Flags.{has_flag, downgrade_to_local}
use Rattle.wild_types.specs.Shares.{part_of, share_of}
use Rattle.wild_needs.specs.TableSymbols.{has_long}
use Rattle.wild_table_formats.specs.Strings.{offset_of, with_strings}
use Rattle.wild_symbols.specs.Indexes.{Indexes, with_index}
use Rattle.wild_table_formats.specs.Symbols.{Symbols, with_entry}
use Rattle.wild_table_formats.specs.TableEntries.{name_at}
use Rattle.wild_table_formats.specs.declared.symbols.SymbolFields.{SymbolFields}
use Rattle.wild_table_formats.specs.declared.symbols.TableFields.{TableFields}
use Rattle.wild_table_formats.specs.declared.symbols.SymbolAttributes.{SymbolAttributes}
use Rattle.wild_symbols.specs.declared.writer.SymbolTableWriter.{SymbolTableWriter}

-- ---- empty tables

abbrev pub dynstr_start_of : Option Group → ℕ
dynstr_start_of None = 0
dynstr_start_of (Some g) = g.dynstr_start

-- the offset of the group's strings in .dynstr
abbrev pub dynstr_start : Layout → ℕ → ℕ
dynstr_start l group = dynstr_start_of (slice_get l.groups group)

abbrev pub strtab_start_of : Option Group → ℕ
strtab_start_of None = 0
strtab_start_of (Some g) = g.strtab_start

-- the offset of the group's strings in .strtab
abbrev pub strtab_start : Layout → ℕ → ℕ
strtab_start l group = strtab_start_of (slice_get l.groups group)

-- an empty symbol table for a share of the part with a role
abbrev pub symbols_with : Layout → ℕ → Role → ℕ → Symbols
symbols_with l group r room = record { part = part_of l r; group = group; symbols = []; room = room; reserved = 0 }

-- an empty table of extended section indexes
abbrev pub indexes_with : Layout → ℕ → Role → ℕ → Bool → Indexes
indexes_with l group r room each = record { part = part_of l r; group = group; bytes = []; room = room; reserved = 0; each = each }

-- empty tables; a dynamic one has no room for local symbols, nor for extended section indexes
abbrev pub no_dynamic_symbols : Layout → ℕ → SymbolTableWriter
no_dynamic_symbols l group = record {
  locals = symbols_with l group role.SymtabLocal 0;
  globals = symbols_with l group role.Dynsym (share_of l group role.Dynsym);
  local_indexes = indexes_with l group role.SymtabShndxLocal 0 false;
  global_indexes = indexes_with l group role.SymtabShndxGlobal 0 false;
  strtab = record { part = part_of l role.Dynstr; group = group; start = dynstr_start l group; bytes = []; room = share_of l group role.Dynstr; reserved = 0 };
}

-- empty tables; every symbol has an extended section index if the layout has a table of them
abbrev pub no_symbols : Layout → ℕ → SymbolTableWriter
no_symbols l group = record {
  locals = symbols_with l group role.SymtabLocal (share_of l group role.SymtabLocal);
  globals = symbols_with l group role.SymtabGlobal (share_of l group role.SymtabGlobal);
  local_indexes = indexes_with l group role.SymtabShndxLocal (share_of l group role.SymtabShndxLocal) (has_long l role.SymtabShndxLocal);
  global_indexes = indexes_with l group role.SymtabShndxGlobal (share_of l group role.SymtabShndxGlobal) (has_long l role.SymtabShndxGlobal);
  strtab = record { part = part_of l role.Strtab; group = group; start = strtab_start l group; bytes = []; room = share_of l group role.Strtab; reserved = 0 };
}

-- ---- one symbol

-- st_shndx
abbrev pub section_number : SymbolSection → ℕ
section_number (Raw n) = n
section_number (Index i) = (split_index i).0

-- the extended section index: a header index from SHN_LORESERVE on; otherwise 0
abbrev pub long_of : SymbolSection → ℕ
long_of (Raw n) = 0
long_of (Index i) = (split_index i).1

-- the fields of an entry, from the section, the value and the other attributes
abbrev pub fields_in_section : SymbolSection → ℕ → SymbolAttributes → TableFields
fields_in_section s value a = record { fields = record { section = section_number s; value = value; attributes = a }; long = long_of s }

-- the entry; name is the offset of its name
abbrev pub entry_with_name : ℕ → SymbolFields → SymtabEntry
entry_with_name name fields = record {
  name = name;
  info = fields.attributes.info;
  other = fields.attributes.other;
  section = fields.section;
  value = fields.value;
  size = fields.attributes.size;
}

-- the local symbols, or the global ones
abbrev pub list_of : Bool → SymbolTableWriter → Symbols
list_of true w = w.locals
list_of false w = w.globals

-- the extended section indexes of these
abbrev pub indexes_of : Bool → SymbolTableWriter → Indexes
indexes_of true w = w.local_indexes
indexes_of false w = w.global_indexes

-- with a symbol appended to its list, and its extended section index
abbrev pub with_listed : Bool → SymtabEntry → ℕ → SymbolTableWriter → SymbolTableWriter
with_listed true e n w = record w { locals = with_entry e w.locals; local_indexes = with_index n w.local_indexes }
with_listed false e n w = record w { globals = with_entry e w.globals; global_indexes = with_index n w.global_indexes }

-- with a name appended to the strings, if there is one
abbrev pub with_name : Option (List ℕ) → SymbolTableWriter → SymbolTableWriter
with_name name w = record w { strtab = with_strings (option_to_list name) w.strtab }

-- with a symbol with these fields appended; its name, if it has one, is the next string
abbrev pub with_fields : Bool → Option (List ℕ) → TableFields → SymbolTableWriter → SymbolTableWriter
with_fields local name t w = with_listed local (entry_with_name (name_at (offset_of w.strtab) name) t.fields) t.long (with_name name w)

abbrev pub with_symbol : Bool → List ℕ → SymbolSection → ℕ → SymbolAttributes → SymbolTableWriter → SymbolTableWriter
with_symbol local name s value a w = with_fields local (Some name) (fields_in_section s value a) w

-- with an undefined symbol appended (SHN_UNDEF, value 0)
abbrev pub with_undefined : Bool → List ℕ → SymbolAttributes → SymbolTableWriter → SymbolTableWriter
with_undefined local name a w = with_symbol local name (Raw shn_undef) 0 a w

-- ---- symbols of the layout

-- the symbol is local in the table: by its binding, or because it was made local (gABI, "Symbol Table", STB_LOCAL)
abbrev pub is_local : LaidOut → Bool
is_local s = s.info / 16 == stb_local || has_flag s.flags downgrade_to_local

-- the layout's attributes of a symbol, with binding STB_LOCAL if it was made local
abbrev pub copied_attributes : LaidOut → SymbolAttributes
copied_attributes s = record { info = if has_flag s.flags downgrade_to_local then s.info % 16 else s.info; other = s.other; size = s.size }

-- with a symbol of the layout appended, with this value in a section
abbrev pub with_copied : List ℕ → SymbolSection → ℕ → LaidOut → SymbolTableWriter → SymbolTableWriter
with_copied name section value s w = with_symbol (is_local s) name section value (copied_attributes s) w
