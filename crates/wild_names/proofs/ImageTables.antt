-- The parts of a look-up in an image whose headers and dynamic section stand.
use Rattle.wild_names.proofs.Common.{◌≡◌, ℕ, ◌+◌, ◌*◌, ◌/◌, inl, inr, true, List, length, refl, ap, arith, ◌==◌, nat_le, Ok, cases_Bool, eqb-true, le-leb, DynamicEntry, ProgramHeader, SectionHeader, is_loadable_header, HasHeaders, entries_before_null, value_of_tag, tables_of}
use Rattle.wild_words.proofs.Basics.{length-flat_map_each}
use Rattle.wild_records.specs.Dynamic.{dynamic_entry_size}
use Rattle.wild_records.specs.FileHeader.{file_header_size, file_header_at}
use Rattle.wild_records.specs.ProgramHeader.{program_header_size}
use Rattle.wild_records.specs.declared.file_header.FileHeader.{FileHeader}
use Rattle.wild_records.proofs.FileHeaderLemmas.{length-file_header}
use Rattle.wild_loader.specs.Headers.{program_headers}
use Rattle.wild_loader.specs.SegmentLaws.{program_bytes}
use Rattle.wild_loader.specs.Laws.{HasDynamic}
use Rattle.wild_loader.specs.Tables.{dynamic_entries, first_dynamic}
use Rattle.wild_loader.proofs.RecordLists.{length-program, programs-read, dynamics-read}
use Rattle.wild_loader.proofs.TableLemmas.{nothing-read}
use Rattle.wild_hashes.specs.Image.{image_header, dynamic_in, parts_by}
use Rattle.wild_names.specs.LowerLaws.{RecordLaws}

-- ---- headers

pub header_found : (image : List ℕ) (e : FileHeader) (hs : List ProgramHeader) (ss : List SectionHeader) → RecordLaws → HasHeaders image e hs ss → is_loadable_header e ≡ true → image_header image ≡ Ok e
unfolding image_header
header_found image e hs ss laws has taken =
    let size = length-file_header e in
    let front = has.file_header.fits in
    let long : nat_le file_header_size (length image) ≡ true = le-leb _ _ (omega (arith, size, front)) in
    let is : file_header_at image 0 ≡ e = laws.headers image 0 e has.fits has.file_header in
    let count = has.program_count in
    let records = length-flat_map_each program_bytes program_header_size length-program hs in
    let behind = has.programs.fits in
    let lie : nat_le (e.program_offset + program_header_size * e.program_count) (length image) ≡ true = le-leb _ _ (omega (arith, count, records, behind)) in
    rw (long, is, taken, lie) refl

pub headers_found : (image : List ℕ) (e : FileHeader) (hs : List ProgramHeader) (ss : List SectionHeader) → RecordLaws → HasHeaders image e hs ss → program_headers image e.program_count e.program_offset ≡ hs
headers_found image e hs ss laws has = let count = has.program_count in rw count (programs-read laws.programs image hs e.program_offset has.programs_fit has.programs)

-- ---- the dynamic section

dynamic_found : (image : List ℕ) (hs : List ProgramHeader) (ds : List DynamicEntry) → RecordLaws → HasDynamic image hs ds → dynamic_in image (first_dynamic hs) ≡ Ok (entries_before_null ds)
dynamic_found image hs ds laws has =
    let d = has.segment in
    let room = has.room in
    let lies : nat_le (d.offset + d.file_size) (length image) ≡ true = le-leb _ _ room in
    let read : dynamic_entries image (d.file_size / dynamic_entry_size) d.offset ≡ entries_before_null ds = rw has.count (dynamics-read laws.dynamics image ds d.offset has.fits has.entries) in
    elim (cases_Bool (d.file_size == 0)) [
      | inl t ↦ rw (has.first, t) (ap Ok (nothing-read image d.file_size d.offset (entries_before_null ds) (eqb-true _ _ t) read))
      | inr f ↦ rw (has.first, f, lies, read) refl
    ]

-- ---- the parts

-- the parts are those that the entries before DT_NULL tell
pub parts_told : (image : List ℕ) (e : FileHeader) (hs : List ProgramHeader) (ss : List SectionHeader) (ds : List DynamicEntry) (tag : ℕ) → RecordLaws → HasHeaders image e hs ss → is_loadable_header e ≡ true → HasDynamic image hs ds
    → tables_of image tag ≡ parts_by image hs (entries_before_null ds) (value_of_tag tag (entries_before_null ds))
unfolding tables_of
parts_told image e hs ss ds tag laws headers taken dynamic =
    let found = header_found image e hs ss laws headers taken in
    let programs = headers_found image e hs ss laws headers in
    let entries = dynamic_found image hs ds laws dynamic in
    rw (found, programs, entries) refl
