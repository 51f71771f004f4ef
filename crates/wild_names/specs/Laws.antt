-- The symbol tables of an image and the names in them (gABI, "Symbol Table", "String Table", "Dynamic Section").
--   table_symbols l        the symbols of the table after the null one, in order, each with its name and its entry's fields
--   IsNamed ..             a name is at an offset of the string table, followed by a zero
--   HasEntry ..            an entry of the table has a symbol's fields, and its name is at the offset in the entry
--   SymbolTablesAreThere   there is a table, and a string table
--   SymbolsAreInTable           each symbol has its entry, after a null one
--   side_symbols l local   the fields of the local entries of .symtab, or of the other entries
--   TableSymbolsAreInParts      each of them has its entry in the part of its side
--   LibrariesAreNamed         each library's name is at the offset in the dynamic section
use Rattle.std.specs.Prelude.{◌≡◌, ℕ, ◌+◌, ◌*◌, ◌^◌, ◌<◌, ◌≤◌, Bool, true, false, List, [], ◌∷◌, ◌++◌, length, map, replicate, Option, Some, None, slice_get}
use Rattle.std.specs.List.{flat_map, filter}
use Rattle.wild_words.specs.Words.{HasBytesAt}
use Rattle.wild_words.specs.Record.{spell}
use Rattle.wild_records.specs.Abi.Dynamic.{dt_needed}
use Rattle.wild_records.specs.Dynamic.{dynamic_entry_size, dynamic_entry_fields}
use Rattle.wild_records.specs.SymtabEntry.{symtab_entry_size, symtab_entry_fields}
use Rattle.wild_types.specs.declared.part.Part.{Part}
use Rattle.wild_types.specs.declared.part.Role.{Role}
use Rattle.wild_types.specs.declared.part.Role.TheVariants as role
use Rattle.wild_types.specs.declared.file.File.{File}
use Rattle.wild_types.specs.declared.file.Group.{Group}
use Rattle.wild_types.specs.declared.layout.Layout.{Layout}
use Rattle.wild_needs.specs.DynamicStrings.{undefined_symbols}
use Rattle.wild_types.specs.FileRoles.{is_library}
use Rattle.wild_types.specs.Kinds.{needs_dynsym, needs_dynamic}
use Rattle.wild_types.specs.Lookups.{files_of, has_symtab, is_header_only_at}
use Rattle.wild_types.specs.Parts.{part_with}
use Rattle.wild_table_formats.specs.declared.symbols.SymbolFields.{SymbolFields}
use Rattle.wild_table_formats.specs.DynamicEntries.{NamedFields, undefined, listed, entry_at}
use Rattle.wild_table_formats.specs.TableEntries.{NamedEntry, is_side, group_table}
use Rattle.wild_layout.specs.Image.{bytes}
use Rattle.wild_layout.specs.Geometry.{IsLaidOut}

-- in file order the symbols that other modules define, then those that other modules see
abbrev pub table_symbols : Layout → List NamedFields
table_symbols l = flat_map (λ (f : File). map (undefined f.role) (undefined_symbols l.symbols f)) (files_of l.groups) ++ map (listed l) l.dynsyms

-- the name is in the image at an offset of the string table, followed by a zero that is also in the table
pub record IsNamed (l : Layout) (strings : Part) (at : ℕ) (name : List ℕ) : Type 0 where
  pub small : at < 2 ^ 32
  pub within : at + (length name + 1) ≤ strings.size
  pub stands : HasBytesAt (bytes l) (strings.offset + at) (name ++ 0 ∷ [])

-- there are a table and its strings, at least one string
pub record HasSymbolTables (l : Layout) : Type 0 where
  pub table : Part
  pub symbols : part_with role.Dynsym l.parts ≡ Some table
  pub strings : Part
  pub names : part_with role.Dynstr l.parts ≡ Some strings
  pub some : 1 ≤ strings.size

-- this holds if the output has dynamic symbols
abbrev pub SymbolTablesAreThere : Type 0
SymbolTablesAreThere = (l : Layout) → IsLaidOut l → needs_dynsym l.kind ≡ true → HasSymbolTables l

-- entry k of the table has a symbol's fields, and its name is at the offset in the entry
pub record HasEntry (l : Layout) (table strings : Part) (k : ℕ) (n : NamedFields) : Type 0 where
  pub at : ℕ
  pub entry : HasBytesAt (bytes l) (table.offset + symtab_entry_size * k) (spell (symtab_entry_fields (entry_at at n.fields)))
  pub name : IsNamed l strings at n.name

-- each symbol of the table has its entry, after a null entry, and there are no others
pub record SymbolsAreThere (l : Layout) (table strings : Part) : Type 0 where
  pub whole : table.size ≡ symtab_entry_size * (length (table_symbols l) + 1)
  pub null : HasBytesAt (bytes l) table.offset (replicate symtab_entry_size 0)
  pub each : (k : ℕ) (n : NamedFields) → slice_get (table_symbols l) k ≡ Some n → HasEntry l table strings (k + 1) n

-- this holds in the image of a layout whose clauses and shares hold, if both are written
abbrev pub SymbolsAreInTable : Type 0
SymbolsAreInTable = (l : Layout) → IsLaidOut l → needs_dynsym l.kind ≡ true → (table strings : Part) → part_with role.Dynsym l.parts ≡ Some table → part_with role.Dynstr l.parts ≡ Some strings → is_header_only_at l table.section ≡ false → is_header_only_at l strings.section ≡ false → SymbolsAreThere l table strings

-- the part of .symtab's local symbols, or that of the others (gABI, "Symbol Table": local ones come first)
abbrev pub table_role : Bool → Role
table_role true = role.SymtabLocal
table_role false = role.SymtabGlobal

-- the fields of an entry, and its symbol's name; a section symbol has none
pub record EntryFields : Type 0 where
  pub name : Option (List ℕ)
  pub fields : SymbolFields

abbrev pub fields_of_entry : NamedEntry → EntryFields
fields_of_entry n = record { name = n.name; fields = n.fields.fields }

-- the local symbols of that table, or the others, in group order
abbrev pub side_symbols : Layout → Bool → List EntryFields
side_symbols l local = flat_map (λ (g : Group). map fields_of_entry (filter (is_side local) (group_table l g))) l.groups

-- the name is at its offset; without a name the offset is that of the empty string, with which the strings begin
abbrev pub IsNamedIfAny : Layout → Part → ℕ → Option (List ℕ) → Type 0
IsNamedIfAny l strings at None = at ≡ 0
IsNamedIfAny l strings at (Some name) = IsNamed l strings at name

-- entry k of the table has a symbol's fields and the offset of its name
pub record HasEntryFields (l : Layout) (table strings : Part) (k : ℕ) (n : EntryFields) : Type 0 where
  pub at : ℕ
  pub entry : HasBytesAt (bytes l) (table.offset + symtab_entry_size * k) (spell (symtab_entry_fields (entry_at at n.fields)))
  pub name : IsNamedIfAny l strings at n.name

-- each symbol of a side has its entry, and there are no others; the first local entry is null
pub record TableIsThere (l : Layout) (local : Bool) (table strings : Part) : Type 0 where
  pub whole : table.size ≡ symtab_entry_size * length (side_symbols l local)
  pub null : local ≡ true → has_symtab l ≡ true → HasBytesAt (bytes l) table.offset (replicate symtab_entry_size 0)
  pub each : (k : ℕ) (n : EntryFields) → slice_get (side_symbols l local) k ≡ Some n → HasEntryFields l table strings k n

-- this holds in the image of a layout whose clauses and shares hold, if both are written
abbrev pub TableSymbolsAreInParts : Type 0
TableSymbolsAreInParts = (l : Layout) → IsLaidOut l → (local : Bool) (table strings : Part) → part_with (table_role local) l.parts ≡ Some table → part_with role.Strtab l.parts ≡ Some strings → is_header_only_at l table.section ≡ false → is_header_only_at l strings.section ≡ false → TableIsThere l local table strings

-- the entry of a library, number j of the dynamic section, has the offset of its name
pub record HasLibrary (l : Layout) (section strings : Part) (j : ℕ) (f : File) : Type 0 where
  pub at : ℕ
  pub entry : HasBytesAt (bytes l) (section.offset + dynamic_entry_size * j) (spell (dynamic_entry_fields (record { tag = dt_needed; value = at })))
  pub name : IsNamed l strings at f.lib_name

-- the libraries of a layout, in order
abbrev pub libraries : Layout → List File
libraries l = filter (λ (f : File). is_library f.role) (files_of l.groups)

-- each library has its entry, before all others, if the section and the names are written
abbrev pub LibrariesAreNamed : Type 0
LibrariesAreNamed = (l : Layout) → IsLaidOut l → needs_dynamic l.kind ≡ true → (section strings : Part) → part_with role.Dynamic l.parts ≡ Some section → part_with role.Dynstr l.parts ≡ Some strings → is_header_only_at l section.section ≡ false → is_header_only_at l strings.section ≡ false → (j : ℕ) (f : File) → slice_get (libraries l) j ≡ Some f → HasLibrary l section strings j f
