-- Dynamic symbols are read back from an image without faults, through the tables that its dynamic section names.
--   IsReadBack l t k n        entry k of the dynamic symbol table is read with a symbol's fields and name
--   HasTableAt image t table  a hash table is found, and begins with these bytes
--   AreHashTablesFound l t    the hash tables of the image are found
--   AreReadBack l             all of these tables are found, and each symbol is read back
--   DynamicSymbolsAreRead     so it is in the image of a layout with a hash table
use Rattle.std.specs.Prelude.{◌≡◌, ℕ, ◌+◌, ◌^◌, ◌<◌, true, List, map, Option, Some, None, Result, Ok, slice_get}
use Rattle.wild_words.specs.Words.{HasBytesAt}
use Rattle.wild_records.specs.declared.symtab_entry.SymtabEntry.{SymtabEntry}
use Rattle.wild_types.specs.declared.layout.GnuHash.{GnuHash}
use Rattle.wild_types.specs.declared.layout.Layout.{Layout}
use Rattle.wild_types.specs.declared.layout.SysvHash.{SysvHash}
use Rattle.wild_types.specs.declared.part.Part.{Part as Region}
use Rattle.wild_types.specs.declared.part.Role.TheVariants as role
use Rattle.wild_types.specs.Parts.{part_with, has_hashes}
use Rattle.wild_needs.specs.DynamicPlaces.{filled_part}
use Rattle.wild_needs.specs.DynamicSymbols.{first_listed}
use Rattle.wild_table_formats.specs.DynamicEntries.{NamedFields}
use Rattle.wild_table_formats.specs.Headers.{program_header}
use Rattle.wild_hashes.specs.declared.fault.ImageFault.{ImageFault}
use Rattle.wild_hashes.specs.declared.image.Part.{Part}
use Rattle.wild_hashes.specs.declared.tables.ImageTables.{ImageTables}
use Rattle.wild_hashes.specs.Image.{bytes_of, bytes_or_none}
use Rattle.wild_hashes.specs.Laws.{AreNumbered}
use Rattle.wild_hashes.specs.Tables.{gnu_hash_of, gnu_header, gnu_table, sysv_hash_of, sysv_table}
use Rattle.wild_hashes.specs.ImageTables.{image_tables, headers_of, symbol_at, text_at}
use Rattle.wild_hashes.specs.Reading.{HasNoZero}
use Rattle.wild_layout.specs.Image.{bytes}
use Rattle.wild_names.specs.Laws.{table_symbols}
use Rattle.wild_names.specs.LookUpLaws.{IsWritten}

-- entry k of the dynamic symbol table is read; each field that is in its range is the symbol's, and so is a name without a zero
pub record IsReadBack (l : Layout) (t : ImageTables) (k : ℕ) (n : NamedFields) : Type 0 where
  pub entry : SymtabEntry
  pub read : symbol_at (bytes l) t k ≡ Ok entry
  pub info : n.fields.attributes.info < 2 ^ 8 → entry.info ≡ n.fields.attributes.info
  pub other : n.fields.attributes.other < 2 ^ 8 → entry.other ≡ n.fields.attributes.other
  pub section : n.fields.section < 2 ^ 16 → entry.section ≡ n.fields.section
  pub value : n.fields.value < 2 ^ 64 → entry.value ≡ n.fields.value
  pub size : n.fields.attributes.size < 2 ^ 64 → entry.size ≡ n.fields.attributes.size
  pub name : HasNoZero n.name → text_at (bytes l) t entry.name ≡ Ok n.name

-- the hash table is found in the image, and begins with these bytes
pub record HasTableAt (image : List ℕ) (found : Option (Result Part ImageFault)) (table : List ℕ) : Type 0 where
  pub part : Part
  pub is : found ≡ Some (Ok part)
  pub there : HasBytesAt (bytes_of image part) 0 table

-- The hash tables of the layout are found, and no others; the exported symbols and their names are where they refer to.
pub record AreHashTablesFound (l : Layout) (t : ImageTables) : Type 0 where
  pub gnu : (h : GnuHash) (p : Region) → l.gnu_hash ≡ Some h → part_with role.GnuHash l.parts ≡ Some p → HasTableAt (bytes l) t.gnu_hash (gnu_table (gnu_header h) (map gnu_hash_of l.dynsyms))
  pub sysv : (h : SysvHash) (p : Region) → l.sysv_hash ≡ Some h → part_with role.SysvHash l.parts ≡ Some p → HasTableAt (bytes l) t.sysv_hash (sysv_table h.buckets (first_listed l) (map sysv_hash_of l.dynsyms))
  pub no_gnu : filled_part l role.GnuHash ≡ None → t.gnu_hash ≡ None
  pub no_sysv : filled_part l role.SysvHash ≡ None → t.sysv_hash ≡ None
  pub numbered : AreNumbered (bytes_or_none (bytes l) t.symbols) (bytes_or_none (bytes l) t.strings) (first_listed l) l.dynsyms

-- the tables of the image are found, and each symbol of the table is read back; entry 0 is the null one
pub record AreReadBack (l : Layout) : Type 0 where
  pub tables : ImageTables
  pub are : image_tables (bytes l) ≡ Ok tables
  pub headers : headers_of (bytes l) tables.headers ≡ map (program_header l) l.segments
  pub each : (k : ℕ) (n : NamedFields) → slice_get (table_symbols l) k ≡ Some n → IsReadBack l tables (k + 1) n
  pub hashes : AreHashTablesFound l tables

-- this holds for an output with a dynamic section and a hash table, with which symbols and strings are each in one segment
abbrev pub DynamicSymbolsAreRead : Type 0
DynamicSymbolsAreRead = (l : Layout) → IsWritten l → has_hashes l ≡ true → AreReadBack l
