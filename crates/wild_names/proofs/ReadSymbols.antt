-- Dynamic symbols and their names, read back from an image without faults.
use Rattle.wild_names.proofs.Common.{◌≡◌, ℕ, ◌+◌, ◌*◌, ◌/◌, ◌^◌, ◌<◌, ◌≤◌, inl, inr, true, false, List, [], ◌∷◌, ◌++◌, length, map, Some, Ok, refl, sym, ap, ◌∙◌, arith, subst, add-zero, ◌==◌, nat_le, slice_get, Option, None, Result, cases_Bool, eqb-true, le-leb, length-append, slice_get_within, HasBytesAt, spell, FieldsAreRead, dt_hash, dt_gnu_hash, symtab_entry_fields, DynamicEntry, ProgramHeader, SectionHeader, SymtabEntry, Part, Role, Layout, role_place, part_with, not_hollow_at, first_listed, section_headers_of, NamedFields, entry_at, bytes, all_needed, table_bytes, is_loadable_header, entries_before_null, HasHeaders, value_of_tag, bytes_of, bytes_or_none, AreNumbered, gnu_hash_of, gnu_header, gnu_table, sysv_hash_of, sysv_table, HasEntry, table_symbols, ImageLaws, NameLaws}
use Rattle.wild_words.proofs.RecordLemmas.{length-spell}
use Rattle.wild_records.specs.Abi.Dynamic.{dt_symtab, dt_strtab}
use Rattle.wild_records.specs.Dynamic.{dynamic_entry_size}
use Rattle.wild_records.specs.SymtabEntry.{symtab_entry_size, symtab_entry_at}
use Rattle.wild_records.specs.declared.file_header.FileHeader.{FileHeader}
use Rattle.wild_types.specs.declared.part.Role.TheVariants as role
use Rattle.wild_types.specs.Parts.{is_look_up_role, has_hashes}
use Rattle.wild_needs.specs.DynamicPlaces.{part_address, filled_part}
use Rattle.wild_table_formats.specs.Headers.{file_header}
use Rattle.wild_table_formats.specs.DynamicSection.{dynamic_records}
use Rattle.wild_loader.specs.Headers.{program_headers}
use Rattle.wild_loader.specs.Laws.{HasDynamic}
use Rattle.wild_loader.specs.Tables.{dynamic_entries, first_dynamic}
use Rattle.wild_loader.proofs.RecordLists.{dynamics-read}
use Rattle.wild_loader.proofs.TableLemmas.{nothing-read}
use Rattle.wild_hashes.specs.declared.fault.ImageFault.{ImageFault}
use Rattle.wild_hashes.specs.declared.image.Part.{Part as Found}
use Rattle.wild_hashes.specs.declared.image.Records.{Records}
use Rattle.wild_hashes.specs.declared.tables.ImageTables.{ImageTables}
use Rattle.wild_hashes.specs.Image.{dynamic_records as records_of, part_of}
use Rattle.wild_hashes.specs.ImageTables.{image_tables, tables_at, headers_of, entries_of, hash_part, symbol_in, symbol_at, text_at}
use Rattle.wild_hashes.specs.Reading.{HasNoZero}
use Rattle.wild_hashes.proofs.NameLemmas.{string_stands}
use Rattle.wild_loaded.specs.Memory.{headers_of as layout_headers}
use Rattle.wild_names.specs.Laws.{SymbolsAreThere}
use Rattle.wild_names.specs.LookUpLaws.{IsWritten}
use Rattle.wild_names.specs.LowerLaws.{RecordLaws}
use Rattle.wild_names.specs.ReadLaws.{IsReadBack, HasTableAt, AreHashTablesFound, AreReadBack, DynamicSymbolsAreRead}
use Rattle.wild_names.proofs.FoundParts.{IsRead, is_read, entries_read, sysv_told, gnu_told, symbols_told, strings_told, found_role, at_address, filled_is}
use Rattle.wild_names.proofs.HashBytes.{sysv_stands as sysv_bytes_are, gnu_stands as gnu_bytes_are}
use Rattle.wild_names.proofs.ImageTables.{header_found, headers_found}
use Rattle.wild_names.proofs.LookUps.{some_sysv, some_gnu, filled}
use Rattle.wild_names.proofs.NumberedLemmas.{are_numbered}
use Rattle.wild_names.proofs.PartBytes.{stands_cut}

-- ---- the tables

-- where the entries of the dynamic section are, and what they are
record HasRecords (image : List ℕ) (hs : List ProgramHeader) (ds : List DynamicEntry) : Type 0 where
  records : Records
  are : records_of image (first_dynamic hs) ≡ Ok records
  entries : dynamic_entries image records.count records.start ≡ entries_before_null ds

none_in : (image : List ℕ) → dynamic_entries image 0 0 ≡ []
unfolding dynamic_entries
none_in image = refl

records_found : (image : List ℕ) (hs : List ProgramHeader) (ds : List DynamicEntry) → RecordLaws → HasDynamic image hs ds → HasRecords image hs ds
records_found image hs ds laws has =
    let d = has.segment in
    let room = has.room in
    let lies : nat_le (d.offset + d.file_size) (length image) ≡ true = le-leb _ _ room in
    let read : dynamic_entries image (d.file_size / dynamic_entry_size) d.offset ≡ entries_before_null ds = rw has.count (dynamics-read laws.dynamics image ds d.offset has.fits has.entries) in
    elim (cases_Bool (d.file_size == 0)) [
      | inl t ↦ record { records = record { start = 0; count = 0 }; are = rw (has.first, t) refl; entries = none_in image ∙ nothing-read image d.file_size d.offset (entries_before_null ds) (eqb-true _ _ t) read }
      | inr f ↦ record { records = record { start = d.offset; count = d.file_size / dynamic_entry_size }; are = rw (has.first, f, lies) refl; entries = read }
    ]

-- the tables of the image, with these program headers and dynamic entries
pub record HasImageTables (image : List ℕ) (hs : List ProgramHeader) (ds : List DynamicEntry) : Type 0 where
  pub tables : ImageTables
  pub are : image_tables image ≡ Ok tables
  pub headers : headers_of image tables.headers ≡ hs
  pub symbols : tables.symbols ≡ part_of image hs dt_symtab (value_of_tag dt_symtab ds)
  pub strings : tables.strings ≡ part_of image hs dt_strtab (value_of_tag dt_strtab ds)
  pub gnu_hash : tables.gnu_hash ≡ hash_part image hs (value_of_tag dt_gnu_hash ds)
  pub sysv_hash : tables.sysv_hash ≡ hash_part image hs (value_of_tag dt_hash ds)

tables_found : (image : List ℕ) (e : FileHeader) (hs : List ProgramHeader) (ss : List SectionHeader) (ds : List DynamicEntry) → RecordLaws → HasHeaders image e hs ss → is_loadable_header e ≡ true → HasDynamic image hs ds → HasImageTables image hs (entries_before_null ds)
unfolding image_tables tables_at
tables_found image e hs ss ds laws headers taken dynamic =
    let found = header_found image e hs ss laws headers taken in
    let programs = headers_found image e hs ss laws headers in
    let r = records_found image hs ds laws dynamic in
    record {
      tables = tables_at image (record { start = e.program_offset; count = e.program_count }) r.records;
      are = rw (found, programs, r.are) refl;
      headers = programs;
      symbols = rw (programs, r.entries) refl;
      strings = rw (programs, r.entries) refl;
      gnu_hash = rw (programs, r.entries) refl;
      sysv_hash = rw (programs, r.entries) refl;
    }

-- ---- a symbol

symbol_is : (image : List ℕ) (t : ImageTables) (f : Found) (k : ℕ) → t.symbols ≡ Ok f → symtab_entry_size * k + symtab_entry_size ≤ length (bytes_of image f) → symbol_at image t k ≡ Ok (symtab_entry_at (bytes_of image f) (symtab_entry_size * k))
unfolding symbol_at symbol_in
symbol_is image t f k symbols room = let fits : nat_le (symtab_entry_size * k + symtab_entry_size) (length (bytes_of image f)) ≡ true = le-leb _ _ room in rw (symbols, fits) refl

text_is : (image : List ℕ) (t : ImageTables) (f : Found) (at : ℕ) (text : List ℕ) → t.strings ≡ Ok f → HasBytesAt (bytes_of image f) at (text ++ 0 ∷ []) → HasNoZero text → text_at image t at ≡ Ok text
unfolding text_at
text_is image t f at text strings there whole = rw (strings, string_stands (bytes_of image f) text at there whole) refl

-- the fields of an entry whose bytes are there
record HasFields (read : SymtabEntry) (e : SymtabEntry) : Type 0 where
  name : e.name < 2 ^ 32 → read.name ≡ e.name
  info : e.info < 2 ^ 8 → read.info ≡ e.info
  other : e.other < 2 ^ 8 → read.other ≡ e.other
  section : e.section < 2 ^ 16 → read.section ≡ e.section
  value : e.value < 2 ^ 64 → read.value ≡ e.value
  size : e.size < 2 ^ 64 → read.size ≡ e.size

fields_read : (whole : List ℕ) (at : ℕ) (e : SymtabEntry) → FieldsAreRead → HasBytesAt whole at (spell (symtab_entry_fields e)) → HasFields (symtab_entry_at whole at) e
unfolding symtab_entry_fields symtab_entry_at
fields_read whole at e law st = record {
  name = λ fits. simp add-zero at (law whole at (symtab_entry_fields e) 0 st (omega arith) fits);
  info = λ fits. law whole at (symtab_entry_fields e) 1 st (omega arith) fits;
  other = λ fits. law whole at (symtab_entry_fields e) 2 st (omega arith) fits;
  section = λ fits. law whole at (symtab_entry_fields e) 3 st (omega arith) fits;
  value = λ fits. law whole at (symtab_entry_fields e) 4 st (omega arith) fits;
  size = λ fits. law whole at (symtab_entry_fields e) 5 st (omega arith) fits;
}

entry_length : (e : SymtabEntry) → length (spell (symtab_entry_fields e)) ≡ symtab_entry_size
unfolding symtab_entry_fields
entry_length e = length-spell (symtab_entry_fields e)

-- where the table and its strings are found
pub record HasFoundParts (l : Layout) (t : ImageTables) (table strings : Part) : Type 0 where
  pub symbols : Found
  pub symbols_are : t.symbols ≡ Ok symbols
  pub start : symbols.start ≡ table.offset
  pub room : table.size ≤ symbols.size
  pub text : Found
  pub text_is : t.strings ≡ Ok text
  pub text_start : text.start ≡ strings.offset
  pub text_room : strings.size ≤ text.size

read_back : (l : Layout) (t : ImageTables) (table strings : Part) (k : ℕ) (n : NamedFields) → FieldsAreRead → HasFoundParts l t table strings → symtab_entry_size * k + symtab_entry_size ≤ table.size → HasEntry l table strings k n → IsReadBack l t k n
read_back l t table strings k n law found room h =
    let e = entry_at h.at n.fields in
    let size = entry_length e in
    let roomy = found.room in
    let cut = stands_cut (bytes l) (spell (symtab_entry_fields e)) found.symbols table.offset (symtab_entry_size * k) found.start (omega (arith, room, roomy, size)) h.entry in
    let inside = cut.fits in
    let small = h.name.small in
    let same : e.name ≡ h.at = omega (arith, small) in
    let fields = fields_read (bytes_of (bytes l) found.symbols) (symtab_entry_size * k) e law cut in
    let text = n.name ++ 0 ∷ [] in
    let long = length-append n.name (0 ∷ []) in
    let within = h.name.within in
    let holds = found.text_room in
    let there = stands_cut (bytes l) text found.text strings.offset h.at found.text_start (omega (arith, within, holds, long)) h.name.stands in
    let told = fields.name (omega (arith, small, same)) ∙ same in
    record {
      entry = symtab_entry_at (bytes_of (bytes l) found.symbols) (symtab_entry_size * k);
      read = symbol_is (bytes l) t found.symbols k found.symbols_are (omega (arith, inside, size));
      info = fields.info;
      other = fields.other;
      section = fields.section;
      value = fields.value;
      size = fields.size;
      name = λ whole. text_is (bytes l) t found.text _ n.name found.text_is (subst (λ (at : ℕ). HasBytesAt (bytes_of (bytes l) found.text) at text) (sym told) there) whole;
    }

-- ---- all of them

-- the tables of the image, where its symbols and strings are, and the hash tables
pub record HasFoundTables (l : Layout) (read : IsRead l) : Type 0 where
  pub tables : HasImageTables (bytes l) (layout_headers l) (entries_read l read.entries.room)
  pub table : Part
  pub strings : Part
  pub all : SymbolsAreThere l table strings
  pub found : HasFoundParts l tables.tables table strings

pub found_tables : (l : Layout) (laws : ImageLaws) (names : NameLaws) (w : IsWritten l) → has_hashes l ≡ true → HasFoundTables l (is_read l laws w)
found_tables l laws names w hashes =
    let read = is_read l laws w in
    let laid = read.laid in
    let keeps = read.keeps in
    let room = read.entries.room in
    let needs = w.dynamic in
    let h = tables_found (bytes l) (file_header l) (layout_headers l) (section_headers_of l l.sections) (all_needed l ++ dynamic_records l room) laws.records read.headers read.taken read.entries.dynamic in
    let t = names.there l laid needs in
    let all = names.stand l laid needs t.table t.strings t.symbols t.names (not_hollow_at l t.table.section keeps) (not_hollow_at l t.strings.section keeps) in
    let size = all.whole in
    let table = found_role l role.Dynsym t.table laws.stand keeps laid needs hashes refl (λ e. cc) t.symbols (omega (arith, size)) in
    let strings = found_role l role.Dynstr t.strings laws.stand keeps laid needs hashes refl (λ e. cc) t.names t.some in
    let symbols : value_of_tag dt_symtab (entries_read l room) ≡ Some t.table.address = symbols_told l room laws needs ∙ ap part_address t.symbols in
    let text : value_of_tag dt_strtab (entries_read l room) ≡ Some t.strings.address = strings_told l room laws needs ∙ ap part_address t.names in
    record {
      tables = h;
      table = t.table;
      strings = t.strings;
      all = all;
      found = record {
        symbols = table.0;
        symbols_are = h.symbols ∙ ap (part_of (bytes l) (layout_headers l) dt_symtab) symbols ∙ at_address (bytes l) (layout_headers l) dt_symtab t.table table.0 table.1;
        start = table.1.start;
        room = table.1.room;
        text = strings.0;
        text_is = h.strings ∙ ap (part_of (bytes l) (layout_headers l) dt_strtab) text ∙ at_address (bytes l) (layout_headers l) dt_strtab t.strings strings.0 strings.1;
        text_start = strings.1.start;
        text_room = strings.1.room;
      };
    }

-- ---- the hash tables

-- a table that is in the part of a role is found there
table_at : (l : Layout) (laws : ImageLaws) (r : Role) (tag : ℕ) (p : Part) (table : List ℕ) (found : Option (Result Found ImageFault)) → (w : IsWritten l) → has_hashes l ≡ true → is_look_up_role r ≡ true → (role_place r ≡ 0 → ⊥) → part_with r l.parts ≡ Some p → table_bytes l r ≡ table → 1 ≤ length table
    → value_of_tag tag (entries_read l (is_read l laws w).entries.room) ≡ part_address (filled_part l r) → found ≡ hash_part (bytes l) (layout_headers l) (value_of_tag tag (entries_read l (is_read l laws w).entries.room)) → HasTableAt (bytes l) found table
table_at l laws r tag p table found w hashes asked loaded there is some telling from =
    let read = is_read l laws w in
    let laid = read.laid in
    let keeps = read.keeps in
    let full = filled l r p table laid loaded there is some in
    let own = found_role l r p laws.stand keeps laid w.dynamic hashes asked loaded there full in
    let here : value_of_tag tag (entries_read l read.entries.room) ≡ Some p.address = telling ∙ ap part_address (filled_is l r p there full) in
    let bytes_there = subst (λ (bs : List ℕ). HasBytesAt (bytes l) p.offset bs) is (laws.stand l laid r loaded p there (not_hollow_at l p.section keeps) full) in
    let moved = subst (λ (n : ℕ). HasBytesAt (bytes l) n table) (sym (add-zero p.offset)) bytes_there in
    let size = ((laid.roles r loaded).there p there).size in
    let same = ap (λ (bs : List ℕ). length bs) is in
    let room = own.1.room in
    record {
      part = own.0;
      is = from ∙ ap (hash_part (bytes l) (layout_headers l)) here ∙ ap (λ (q : Result Found ImageFault). Some q) own.1.is;
      there = stands_cut (bytes l) table own.0 p.offset 0 own.1.start (omega (arith, size, same, room)) moved;
    }

-- without the part of a table, or with an empty one, there is none
none_at : (l : Layout) (laws : ImageLaws) (r : Role) (tag : ℕ) (found : Option (Result Found ImageFault)) → (w : IsWritten l) → value_of_tag tag (entries_read l (is_read l laws w).entries.room) ≡ part_address (filled_part l r) → filled_part l r ≡ None
    → found ≡ hash_part (bytes l) (layout_headers l) (value_of_tag tag (entries_read l (is_read l laws w).entries.room)) → found ≡ None
none_at l laws r tag found w telling missing from = from ∙ ap (hash_part (bytes l) (layout_headers l)) (telling ∙ ap part_address missing)

hashes_found : (l : Layout) (laws : ImageLaws) (names : NameLaws) (w : IsWritten l) (hashes : has_hashes l ≡ true) → AreHashTablesFound l (found_tables l laws names w hashes).tables.tables
hashes_found l laws names w hashes =
    let f = found_tables l laws names w hashes in
    let t = f.tables.tables in
    let read = is_read l laws w in
    let laid = read.laid in
    let room = read.entries.room in
    let gnu = gnu_told l room laws w.dynamic in
    let sysv = sysv_told l room laws w.dynamic in
    record {
      gnu = λ h p shape there. table_at l laws role.GnuHash dt_gnu_hash p (gnu_table (gnu_header h) (map gnu_hash_of l.dynsyms)) t.gnu_hash w hashes refl (λ e. cc) there (gnu_bytes_are l h laid w.dynamic shape) (some_gnu (gnu_header h) (map gnu_hash_of l.dynsyms)) gnu f.tables.gnu_hash;
      sysv = λ h p shape there. table_at l laws role.SysvHash dt_hash p (sysv_table h.buckets (first_listed l) (map sysv_hash_of l.dynsyms)) t.sysv_hash w hashes refl (λ e. cc) there (sysv_bytes_are l h laid w.dynamic shape) (some_sysv h.buckets (first_listed l) (map sysv_hash_of l.dynsyms)) sysv f.tables.sysv_hash;
      no_gnu = λ missing. none_at l laws role.GnuHash dt_gnu_hash t.gnu_hash w gnu missing f.tables.gnu_hash;
      no_sysv = λ missing. none_at l laws role.SysvHash dt_hash t.sysv_hash w sysv missing f.tables.sysv_hash;
      numbered = (
          let found = f.found in
          let n = are_numbered l f.table f.strings found.symbols found.text f.all (record { start = found.start; room = found.room; strings_start = found.text_start; strings_room = found.text_room }) laid.indexes laid.dynsyms.named in
          subst (λ (q : Result Found ImageFault). AreNumbered (bytes_or_none (bytes l) q) (bytes_or_none (bytes l) t.strings) (first_listed l) l.dynsyms) (sym found.symbols_are)
          (subst (λ (q : Result Found ImageFault). AreNumbered (bytes_of (bytes l) found.symbols) (bytes_or_none (bytes l) q) (first_listed l) l.dynsyms) (sym found.text_is) n));
    }

pub symbols_read : ImageLaws → NameLaws → FieldsAreRead → DynamicSymbolsAreRead
symbols_read laws names law = λ l w hashes.
    let f = found_tables l laws names w hashes in
    let size = f.all.whole in
    record {
      tables = f.tables.tables;
      are = f.tables.are;
      headers = f.tables.headers;
      each = λ k n is. (
          let lt = slice_get_within (table_symbols l) k n is in
          read_back l f.tables.tables f.table f.strings (k + 1) n law f.found (omega (arith, size, lt)) (f.all.each k n is));
      hashes = hashes_found l laws names w hashes;
    }
