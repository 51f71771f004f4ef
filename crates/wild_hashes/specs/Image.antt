-- The look-up of a name in an image. Its hash, symbol and string tables are found through the dynamic section.
--   image_header image        the file header, if it is that of a loadable image and the program headers lie in the image
--   dynamic_in image d        the entries of the dynamic section; none without a PT_DYNAMIC
--   dynamic_records image d   where these entries are
--   part_at image hs a        the file bytes from an address on, in the first PT_LOAD that contains it
--   tables_of image tag       the tables for a look-up in the hash table of a tag; none if the image has no such table
--   gnu_lookup_in image name, sysv_lookup_in image name   the symbol that the look-up in the image's table finds
use Rattle.std.specs.Prelude.{ℕ, ◌+◌, ◌-◌, ◌*◌, ◌/◌, ◌%◌, ◌^◌, ◌≤◌, ◌&&◌, ◌==◌, if◌then◌else◌, nat_le, min, List, [], ◌∷◌, length, take, drop, Option, Some, None, Result, Ok, Err, IfOk}
use Rattle.wild_records.specs.Abi.Dynamic.{dt_hash, dt_gnu_hash, dt_symtab, dt_strtab, dt_strsz}
use Rattle.wild_records.specs.Dynamic.{dynamic_entry_size}
use Rattle.wild_records.specs.FileHeader.{file_header_size, file_header_at}
use Rattle.wild_records.specs.ProgramHeader.{program_header_size}
use Rattle.wild_records.specs.SymtabEntry.{symtab_entry_size}
use Rattle.wild_records.specs.declared.dynamic.DynamicEntry.{DynamicEntry}
use Rattle.wild_records.specs.declared.file_header.FileHeader.{FileHeader}
use Rattle.wild_records.specs.declared.program_header.ProgramHeader.{ProgramHeader}
use Rattle.wild_loader.specs.Headers.{is_loadable_header, program_headers}
use Rattle.wild_loader.specs.Tables.{dynamic_entries, first_dynamic, value_of_tag, has_in_memory, offset_in}
use Rattle.wild_hashes.specs.declared.fault.LookupFault.{LookupFault}
use Rattle.wild_hashes.specs.declared.fault.LookupFault.TheVariants as low
use Rattle.wild_hashes.specs.declared.fault.ImageFault.{ImageFault}
use Rattle.wild_hashes.specs.declared.fault.ImageFault.TheVariants as faults
use Rattle.wild_hashes.specs.declared.image.Part.{Part}
use Rattle.wild_hashes.specs.declared.image.Parts.{Parts}
use Rattle.wild_hashes.specs.declared.image.Records.{Records}
use Rattle.wild_hashes.specs.LookUp.{gnu_lookup, sysv_lookup}

-- a step and the next one, which uses its value; the first fault is that of both
infixl 10 ◌>>>◌
abbrev pub ◌>>>◌ : {A B : Type 0} → Result A ImageFault → (A → Result B ImageFault) → Result B ImageFault
(Ok x) >>> f = f x
(Err e) >>> f = Err e

-- ---- the image

-- the file header (gABI, "ELF Header")
unfoldable pub image_header : List ℕ → Result FileHeader ImageFault
image_header image =
    if nat_le file_header_size (length image) && is_loadable_header (file_header_at image 0)
    then (if nat_le ((file_header_at image 0).program_offset + program_header_size * (file_header_at image 0).program_count) (length image) then Ok (file_header_at image 0) else Err (faults.Cut (file_header_at image 0).program_offset))
    else Err faults.NotElf

-- the entries of the dynamic section; the PT_DYNAMIC segment must lie in the image, and one without file bytes has no entries
abbrev pub dynamic_in : List ℕ → Option ProgramHeader → Result (List DynamicEntry) ImageFault
dynamic_in image None = Ok []
dynamic_in image (Some d) =
    if d.file_size == 0 then Ok []
    else if nat_le (d.offset + d.file_size) (length image) then Ok (dynamic_entries image (d.file_size / dynamic_entry_size) d.offset) else Err (faults.Cut d.offset)

-- where these entries are, with those from the first DT_NULL on
abbrev pub dynamic_records : List ℕ → Option ProgramHeader → Result Records ImageFault
dynamic_records image None = Ok (record { start = 0; count = 0 })
dynamic_records image (Some d) =
    if d.file_size == 0 then Ok (record { start = 0; count = 0 })
    else if nat_le (d.offset + d.file_size) (length image) then Ok (record { start = d.offset; count = d.file_size / dynamic_entry_size }) else Err (faults.Cut d.offset)

-- the file bytes of a segment from an address on: their file offset modulo 2^64 for faults, the index of the first in the image,
-- and their number
abbrev pub part_in : List ℕ → ProgramHeader → ℕ → Part
part_in image h a = record {
  offset = offset_in h a % 2 ^ 64;
  start = min (offset_in h a) (length image);
  size = min (h.address + h.file_size - a) (length image - offset_in h a);
}

-- the file bytes from an address on, in the first PT_LOAD that contains the address (gABI, "Program Header")
unfoldable pub part_at : List ℕ → List ProgramHeader → ℕ → Result Part ImageFault
part_at image [] a = Err (faults.Cut a)
part_at image (h ∷ hs) a = if has_in_memory h a then Ok (part_in image h a) else part_at image hs a

-- the file bytes of the table whose address the entry with a tag has
unfoldable pub part_of : List ℕ → List ProgramHeader → ℕ → Option ℕ → Result Part ImageFault
part_of image hs tag None = Err (faults.NoTable tag)
part_of image hs tag (Some a) = part_at image hs a

-- the first n bytes of a part; if it has fewer, the table is cut
abbrev pub sized_part : ℕ → Part → Result Part ImageFault
sized_part n p = if nat_le n p.size then Ok (record p { size = n }) else Err (faults.Cut p.offset)

-- the string table, from DT_STRTAB and DT_STRSZ; if only one is present, the fault has its tag
unfoldable pub strings_of : List ℕ → List ProgramHeader → Option ℕ → Option ℕ → Result Part ImageFault
strings_of image hs None None = Err (faults.NoTable dt_strtab)
strings_of image hs None (Some n) = Err (faults.NoTable dt_strsz)
strings_of image hs (Some a) None = Err (faults.NoTable dt_strtab)
strings_of image hs (Some a) (Some n) = part_at image hs a >>> λ p. sized_part n p

-- the tables for a look-up in the hash table at an address; the symbol and string tables are only needed once a name is compared, so
-- a fault of theirs is kept until then
abbrev pub parts_by : List ℕ → List ProgramHeader → List DynamicEntry → Option ℕ → Result (Option Parts) ImageFault
parts_by image hs ds None = Ok None
parts_by image hs ds (Some a) =
    part_at image hs a >>> λ t.
    Ok (Some (record { hashes = t; symbols = part_of image hs dt_symtab (value_of_tag dt_symtab ds); strings = strings_of image hs (value_of_tag dt_strtab ds) (value_of_tag dt_strsz ds) }))

abbrev pub parts_of : List ℕ → List ProgramHeader → ℕ → Result (Option Parts) ImageFault
parts_of image hs tag = dynamic_in image (first_dynamic hs) >>> λ ds. parts_by image hs ds (value_of_tag tag ds)

-- the tables for a look-up in the hash table of a tag
unfoldable pub tables_of : List ℕ → ℕ → Result (Option Parts) ImageFault
tables_of image tag = image_header image >>> λ e. parts_of image (program_headers image e.program_count e.program_offset) tag

-- a part lies in the image
abbrev pub IsInside : List ℕ → Part → Type 0
IsInside image p = p.start + p.size ≤ length image

-- the parts lie in the image
pub record AreInside (image : List ℕ) (ps : Parts) : Type 0 where
  pub hashes : IsInside image ps.hashes
  pub symbols : IfOk ps.symbols (λ p. IsInside image p)
  pub strings : IfOk ps.strings (λ p. IsInside image p)

-- ---- the look-up

-- the bytes of a part
abbrev pub bytes_of : List ℕ → Part → List ℕ
bytes_of image p = take p.size (drop p.start image)

-- the bytes of a part; none if it was not found
abbrev pub bytes_or_none : List ℕ → Result Part ImageFault → List ℕ
bytes_or_none image (Ok p) = bytes_of image p
bytes_or_none image (Err e) = []

-- the fault at an offset of a part, or the fault because of which the part was not found
abbrev pub fault_in_part : Result Part ImageFault → ℕ → ImageFault
fault_in_part (Ok p) at = faults.Cut ((p.offset + at) % 2 ^ 64)
fault_in_part (Err e) at = e

-- a fault of the look-up in tables, with its offset in the image
abbrev pub fault_in_image : Parts → LookupFault → ImageFault
fault_in_image ps (low.Cut at) = faults.Cut ((ps.hashes.offset + at) % 2 ^ 64)
fault_in_image ps (low.NoSymbol i) = fault_in_part ps.symbols (symtab_entry_size * i)
fault_in_image ps (low.NoString at) = fault_in_part ps.strings at
fault_in_image ps (low.Cycle i) = faults.Cycle i

abbrev pub result_in_image : Parts → Result (Option ℕ) LookupFault → Result (Option ℕ) ImageFault
result_in_image ps (Ok found) = Ok found
result_in_image ps (Err e) = Err (fault_in_image ps e)

abbrev pub gnu_by : List ℕ → List ℕ → Option Parts → Result (Option ℕ) ImageFault
gnu_by image name None = Ok None
gnu_by image name (Some ps) = result_in_image ps (gnu_lookup (bytes_of image ps.hashes) (bytes_or_none image ps.symbols) (bytes_or_none image ps.strings) name)

abbrev pub sysv_by : List ℕ → List ℕ → Option Parts → Result (Option ℕ) ImageFault
sysv_by image name None = Ok None
sysv_by image name (Some ps) = result_in_image ps (sysv_lookup (bytes_of image ps.hashes) (bytes_or_none image ps.symbols) (bytes_or_none image ps.strings) name)

-- the symbol that the look-up in the GNU table of an image finds
unfoldable pub gnu_lookup_in : List ℕ → List ℕ → Result (Option ℕ) ImageFault
gnu_lookup_in image name = tables_of image dt_gnu_hash >>> λ ps. gnu_by image name ps

-- the symbol that the look-up in the System V table of an image finds
unfoldable pub sysv_lookup_in : List ℕ → List ℕ → Result (Option ℕ) ImageFault
sysv_lookup_in image name = tables_of image dt_hash >>> λ ps. sysv_by image name ps
