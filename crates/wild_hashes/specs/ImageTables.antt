-- The tables that the dynamic section of an image names, found once; and what is read through them.
--   image_tables image      where the tables are, or the first fault of the file header and of the dynamic section
--   headers_of image r      the program headers
--   entries_of image r      the dynamic entries before the first DT_NULL
--   text_at image t at      the string at an offset of the string table
--   symbol_at image t k     the dynamic symbol with an index
--   find_name image t name  the index that a look-up of a name in the GNU table gives or, without one, in the System V table
use Rattle.std.specs.Prelude.{ℕ, ◌+◌, ◌*◌, ◌≤◌, if◌then◌else◌, nat_le, List, length, Option, Some, None, Result, Ok, Err, IfOk, IfSome}
use Rattle.wild_records.specs.Abi.Dynamic.{dt_hash, dt_gnu_hash, dt_symtab, dt_strtab}
use Rattle.wild_records.specs.Dynamic.{dynamic_entry_size}
use Rattle.wild_records.specs.ProgramHeader.{program_header_size}
use Rattle.wild_records.specs.SymtabEntry.{symtab_entry_size, symtab_entry_at}
use Rattle.wild_records.specs.declared.dynamic.DynamicEntry.{DynamicEntry}
use Rattle.wild_records.specs.declared.program_header.ProgramHeader.{ProgramHeader}
use Rattle.wild_records.specs.declared.symtab_entry.SymtabEntry.{SymtabEntry}
use Rattle.wild_loader.specs.Headers.{program_headers}
use Rattle.wild_loader.specs.Tables.{dynamic_entries, first_dynamic, value_of_tag}
use Rattle.wild_hashes.specs.declared.fault.LookupFault.{LookupFault}
use Rattle.wild_hashes.specs.declared.fault.ImageFault.{ImageFault}
use Rattle.wild_hashes.specs.declared.image.Part.{Part}
use Rattle.wild_hashes.specs.declared.image.Parts.{Parts}
use Rattle.wild_hashes.specs.declared.image.Records.{Records}
use Rattle.wild_hashes.specs.declared.tables.ImageTables.{ImageTables}
use Rattle.wild_hashes.specs.Reading.{string_at}
use Rattle.wild_hashes.specs.Image.{◌>>>◌, image_header, dynamic_records, part_at, part_of, IsInside, bytes_or_none, fault_in_part, gnu_by, sysv_by}

-- ---- where the tables are

-- the program headers
abbrev pub headers_of : List ℕ → Records → List ProgramHeader
headers_of image r = program_headers image r.count r.start

-- the dynamic entries before the first DT_NULL
abbrev pub entries_of : List ℕ → Records → List DynamicEntry
entries_of image r = dynamic_entries image r.count r.start

-- the hash table whose address a dynamic entry has
abbrev pub hash_part : List ℕ → List ProgramHeader → Option ℕ → Option (Result Part ImageFault)
hash_part image hs None = None
hash_part image hs (Some a) = Some (part_at image hs a)

-- the tables that these dynamic entries name (gABI, "Dynamic Section")
unfoldable pub tables_at : List ℕ → Records → Records → ImageTables
tables_at image hs ds = record {
  headers = hs;
  entries = ds;
  symbols = part_of image (headers_of image hs) dt_symtab (value_of_tag dt_symtab (entries_of image ds));
  strings = part_of image (headers_of image hs) dt_strtab (value_of_tag dt_strtab (entries_of image ds));
  gnu_hash = hash_part image (headers_of image hs) (value_of_tag dt_gnu_hash (entries_of image ds));
  sysv_hash = hash_part image (headers_of image hs) (value_of_tag dt_hash (entries_of image ds));
}

-- the tables that the dynamic section of the first PT_DYNAMIC names; without one there are no entries
abbrev pub tables_with : List ℕ → Records → Result ImageTables ImageFault
tables_with image hs = dynamic_records image (first_dynamic (headers_of image hs)) >>> λ ds. Ok (tables_at image hs ds)

-- where the tables are
unfoldable pub image_tables : List ℕ → Result ImageTables ImageFault
image_tables image = image_header image >>> λ e. tables_with image (record { start = e.program_offset; count = e.program_count })

-- a hash table lies in the image
abbrev pub IsHashInside : List ℕ → Option (Result Part ImageFault) → Type 0
IsHashInside image h = IfSome h (λ r. IfOk r (λ p. IsInside image p))

-- the tables lie in the image
pub record AreTablesInside (image : List ℕ) (t : ImageTables) : Type 0 where
  pub headers : t.headers.start + program_header_size * t.headers.count ≤ length image
  pub entries : t.entries.start + dynamic_entry_size * t.entries.count ≤ length image
  pub symbols : IfOk t.symbols (λ p. IsInside image p)
  pub strings : IfOk t.strings (λ p. IsInside image p)
  pub gnu_hash : IsHashInside image t.gnu_hash
  pub sysv_hash : IsHashInside image t.sysv_hash

-- ---- strings and symbols

-- a string of a part, or the fault at its offset
abbrev pub text_by : Result Part ImageFault → ℕ → Result (List ℕ) LookupFault → Result (List ℕ) ImageFault
text_by strings at (Ok text) = Ok text
text_by strings at (Err e) = Err (fault_in_part strings at)

-- the string at an offset of the string table, which has to end in its segment's file bytes (gABI, "String Table")
unfoldable pub text_at : List ℕ → ImageTables → ℕ → Result (List ℕ) ImageFault
text_at image t at = text_by t.strings at (string_at (bytes_or_none image t.strings) at)

-- the symbol with an index, if the symbol table does not end before it
unfoldable pub symbol_in : List ℕ → ℕ → Option SymtabEntry
symbol_in symbols k = if nat_le (symtab_entry_size * k + symtab_entry_size) (length symbols) then Some (symtab_entry_at symbols (symtab_entry_size * k)) else None

abbrev pub symbol_by : Result Part ImageFault → ℕ → Option SymtabEntry → Result SymtabEntry ImageFault
symbol_by symbols k (Some e) = Ok e
symbol_by symbols k None = Err (fault_in_part symbols (symtab_entry_size * k))

-- the dynamic symbol with an index (gABI, "Symbol Table")
unfoldable pub symbol_at : List ℕ → ImageTables → ℕ → Result SymtabEntry ImageFault
symbol_at image t k = symbol_by t.symbols k (symbol_in (bytes_or_none image t.symbols) k)

-- ---- look-ups

-- the parts that a look-up in a hash table reads
abbrev pub parts_with : ImageTables → Part → Option Parts
parts_with t hashes = Some (record { hashes = hashes; symbols = t.symbols; strings = t.strings })

-- the index that a look-up in the System V table gives, if there is one
abbrev pub find_sysv : List ℕ → ImageTables → List ℕ → Option (Result Part ImageFault) → Result (Option ℕ) ImageFault
find_sysv image t name None = Ok None
find_sysv image t name (Some hashes) = hashes >>> λ p. sysv_by image name (parts_with t p)

-- the index that a look-up in the GNU table gives or, without one, in the System V table
abbrev pub find_gnu : List ℕ → ImageTables → List ℕ → Option (Result Part ImageFault) → Result (Option ℕ) ImageFault
find_gnu image t name None = find_sysv image t name t.sysv_hash
find_gnu image t name (Some hashes) = hashes >>> λ p. gnu_by image name (parts_with t p)

unfoldable pub find_name : List ℕ → ImageTables → List ℕ → Result (Option ℕ) ImageFault
find_name image t name = find_gnu image t name t.gnu_hash
