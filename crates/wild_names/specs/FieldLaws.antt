-- The entries of the symbol tables of a layout without faults, and the number of local symbols in their section header (gABI,
-- "Symbol Table", "Section Header").
--   TableSymbolsHaveFields    each symbol of .symtab has its fields, and its entry has them
--   ListedSymbolsHaveFields   the same for each symbol that other modules see
--   HasOwnInfo l table        sh_info of the local symbols' section has no other meaning
--   LocalSymbolsAreCounted    sh_info of that section is the number of local symbols
use Rattle.std.specs.Prelude.{◌≡◌, ◌+◌, ◌*◌, ◌^◌, ◌<◌, ◌≤◌, true, [], length, Contains, Some, Ok, slice_get}
use Rattle.wild_records.specs.SectionHeader.{section_header_size, section_header_at}
use Rattle.wild_types.specs.declared.part.Part.{Part}
use Rattle.wild_types.specs.declared.part.Role.TheVariants as role
use Rattle.wild_types.specs.declared.symbol.Symbol.{Symbol}
use Rattle.wild_types.specs.declared.file.File.{File}
use Rattle.wild_types.specs.declared.file.Group.{Group}
use Rattle.wild_types.specs.declared.layout.DynamicSymbol.{DynamicSymbol}
use Rattle.wild_types.specs.declared.layout.Layout.{Layout}
use Rattle.wild_types.specs.Kinds.{needs_dynsym, is_partial_link}
use Rattle.wild_types.specs.Parts.{part_with}
use Rattle.wild_needs.specs.TableSymbols.{TableSymbol, file_items, item_name, is_local}
use Rattle.wild_table_formats.specs.declared.symbols.SymbolFields.{SymbolFields}
use Rattle.wild_table_formats.specs.declared.symbols.TableFields.{TableFields}
use Rattle.wild_table_formats.specs.DynamicEntries.{NamedFields, listed}
use Rattle.wild_table_formats.specs.DynamicFields.{exported_symbol_fields}
use Rattle.wild_table_formats.specs.TableEntries.{NamedEntry, table_fields, named_entry}
use Rattle.wild_layout.specs.Faults.{errors}
use Rattle.wild_layout.specs.Geometry.{IsLaidOut}
use Rattle.wild_layout.specs.Image.{bytes}
use Rattle.wild_names.specs.Laws.{side_symbols}

-- ---- fields

-- a symbol's name and side, with these fields
abbrev pub entry_with : TableSymbol → TableFields → NamedEntry
entry_with x fields = record { name = Some (item_name x); local = is_local x; fields = fields }

-- a symbol of .symtab is complete: it has its fields, and its entry has them
pub record HasTableFields (l : Layout) (f : File) (x : TableSymbol) : Type 0 where
  pub fields : TableFields
  pub told : table_fields l f x ≡ Ok fields
  pub entry : named_entry l f x ≡ entry_with x fields

-- this holds for each symbol that a file of a layout without faults has in that table
abbrev pub TableSymbolsHaveFields : Type 0
TableSymbolsHaveFields = (l : Layout) → errors l ≡ [] → (g : Group) (f : File) (x : TableSymbol) → Contains l.groups g → Contains g.files f → Contains (file_items l f) x → HasTableFields l f x

-- a listed symbol's name, with these fields
abbrev pub listed_with : DynamicSymbol → SymbolFields → NamedFields
listed_with d fields = record { name = d.name; fields = fields }

-- a symbol that other modules see is complete: the layout has it, it has its fields, and its entry has them
pub record HasListedFields (l : Layout) (d : DynamicSymbol) : Type 0 where
  pub symbol : Symbol
  pub there : slice_get l.symbols d.symbol ≡ Some symbol
  pub fields : SymbolFields
  pub told : exported_symbol_fields l d.symbol symbol ≡ Ok fields
  pub entry : listed l d ≡ listed_with d fields

-- this holds for each one of a layout without faults, if the output has dynamic symbols
abbrev pub ListedSymbolsHaveFields : Type 0
ListedSymbolsHaveFields = (l : Layout) → errors l ≡ [] → needs_dynsym l.kind ≡ true → (d : DynamicSymbol) → Contains l.dynsyms d → HasListedFields l d

-- ---- the number of local symbols

-- The part is in a section other than section 0. That section has neither dynamic symbols nor entries of stubs, for which sh_info
-- has another meaning.
pub record HasOwnInfo (l : Layout) (table : Part) : Type 0 where
  pub some : 1 ≤ table.section
  pub symbols : (p : Part) → part_with role.Dynsym l.parts ≡ Some p → p.section ≡ table.section → ⊥
  pub stubs : (p : Part) → part_with role.RelaPlt l.parts ≡ Some p → p.section ≡ table.section → ⊥

-- In the image sh_info of the local symbols' section is their number, including the null symbol: one greater than the index of
-- the last one. For a relocatable object, whose section symbols have no names, there must be fewer than 2^32.
abbrev pub LocalSymbolsAreCounted : Type 0
LocalSymbolsAreCounted = (l : Layout) → IsLaidOut l → (is_partial_link l.kind ≡ true → length (side_symbols l true) < 2 ^ 32) → (table headers : Part) → part_with role.SymtabLocal l.parts ≡ Some table → part_with role.SectionHeaders l.parts ≡ Some headers → HasOwnInfo l table
    → (section_header_at (bytes l) (headers.offset + section_header_size * table.section)).info ≡ length (side_symbols l true)
