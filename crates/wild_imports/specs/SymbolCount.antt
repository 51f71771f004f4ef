-- The number of dynamic symbols of an image. ELF records it nowhere: it is the number of symbols of the System V hash table or, without one,
-- that of the GNU hash table or, without both, the size of the dynamic symbol table in the section headers.
--   symbol_count image t    the number of dynamic symbols, with the null symbol
--   gnu_count table         the number that a GNU hash table tells
--   dynsym_count image      the number that the section headers tell
use Rattle.std.specs.Prelude.{ℕ, zero, suc, ◌+◌, ◌-◌, ◌*◌, ◌/◌, ◌%◌, ◌^◌, ◌==◌, if◌then◌else◌, max, nat_lt, nat_le, List, [], ◌∷◌, length, Option, Some, None, Result, Ok, Err}
use Rattle.wild_records.specs.Abi.Section.{shn_undef, sht_dynsym}
use Rattle.wild_records.specs.HashTables.{gnu_hash_header_at, gnu_hash_header_size}
use Rattle.wild_records.specs.SectionHeader.{section_header_size, section_header_at}
use Rattle.wild_records.specs.SymtabEntry.{symtab_entry_size}
use Rattle.wild_records.specs.declared.file_header.FileHeader.{FileHeader}
use Rattle.wild_records.specs.declared.hash_tables.GnuHashHeader.{GnuHashHeader}
use Rattle.wild_records.specs.declared.section_header.SectionHeader.{SectionHeader}
use Rattle.wild_loader.specs.Headers.{section_headers}
use Rattle.wild_hashes.specs.declared.fault.ImageFault.{ImageFault}
use Rattle.wild_hashes.specs.declared.fault.ImageFault.TheVariants as faults
use Rattle.wild_hashes.specs.declared.fault.LookupFault.{LookupFault}
use Rattle.wild_hashes.specs.declared.fault.LookupFault.TheVariants as low
use Rattle.wild_hashes.specs.declared.image.Part.{Part}
use Rattle.wild_hashes.specs.declared.image.Records.{Records}
use Rattle.wild_hashes.specs.declared.tables.ImageTables.{ImageTables}
use Rattle.wild_hashes.specs.Reading.{read, ◌>>=◌}
use Rattle.wild_hashes.specs.Image.{◌>>>◌, image_header, bytes_of}

-- ---- by hash tables

-- the greatest of `left` words from an offset on, and of a number
unfoldable pub greatest_word : List ℕ → ℕ → ℕ → ℕ → Result ℕ LookupFault
greatest_word table zero at best = Ok best
greatest_word table (suc left) at best = read table at 4 >>= λ w. greatest_word table left (at + 4) (max best w)

-- the number of symbols up to the end of a chain: the chain word of symbol i is at an offset, and a word with bit 0 set ends the chain
-- (GNU, "DT_GNU_HASH"); the limit is as many words as the table has bytes, so the word after them is cut
unfoldable pub count_chain : List ℕ → ℕ → ℕ → ℕ → Result ℕ LookupFault
count_chain table zero at i = Err (low.Cut at)
count_chain table (suc left) at i = read table at 4 >>= λ c. if c % 2 == 1 then Ok (i + 1) else count_chain table left (at + 4) (i + 1)

-- the symbols of a GNU table are those before its base, and those up to the end of the chain that starts at the greatest bucket
abbrev pub count_from : List ℕ → GnuHashHeader → ℕ → Result ℕ LookupFault
count_from table h last =
    if nat_lt last h.symbol_base then Ok h.symbol_base
    else count_chain table (length table) (gnu_hash_header_size + 8 * h.bloom_count + 4 * h.bucket_count + 4 * (last - h.symbol_base)) last

abbrev pub count_with : List ℕ → GnuHashHeader → Result ℕ LookupFault
count_with table h = greatest_word table h.bucket_count (gnu_hash_header_size + 8 * h.bloom_count) 0 >>= λ last. count_from table h last

-- the number of symbols that a GNU hash table tells
unfoldable pub gnu_count : List ℕ → Result ℕ LookupFault
gnu_count table = if nat_le gnu_hash_header_size (length table) then count_with table (gnu_hash_header_at table 0) else Err (low.Cut 0)

-- the number of symbols that a System V hash table tells: its second word, nchain (gABI, "Hash Table")
unfoldable pub sysv_count : List ℕ → Result ℕ LookupFault
sysv_count table = read table 4 4

-- a number of a table, or the fault at its offset in the image; no other fault comes here
abbrev pub count_in : Part → Result ℕ LookupFault → Result ℕ ImageFault
count_in p (Ok n) = Ok n
count_in p (Err (low.Cut at)) = Err (faults.Cut ((p.offset + at) % 2 ^ 64))
count_in p (Err e) = Err (faults.Cut p.offset)

-- ---- by section headers

-- the number of section headers: e_shnum or, if that is 0, the size of section header 0 (gABI, "ELF Header")
abbrev pub section_total : List ℕ → FileHeader → Result ℕ ImageFault
section_total image h =
    if h.section_count == shn_undef
    then (if nat_le (h.section_offset + section_header_size) (length image) then Ok (section_header_at image h.section_offset).size else Err (faults.Cut h.section_offset))
    else Ok h.section_count

abbrev pub section_records_with : List ℕ → FileHeader → ℕ → Result Records ImageFault
section_records_with image h n =
    if nat_le (h.section_offset + section_header_size * n) (length image) then Ok (record { start = h.section_offset; count = n }) else Err (faults.Cut h.section_offset)

-- where the section headers are; there are none if e_shoff is 0
unfoldable pub section_records : List ℕ → FileHeader → Result Records ImageFault
section_records image h = if h.section_offset == 0 then Ok (record { start = 0; count = 0 }) else (section_total image h >>> λ n. section_records_with image h n)

-- the size of the first section of type SHT_DYNSYM; 0 without one
unfoldable pub dynsym_size : List SectionHeader → ℕ
dynsym_size [] = 0
dynsym_size (s ∷ ss) = if s.kind == sht_dynsym then s.size else dynsym_size ss

-- the number of symbols that the section headers tell
unfoldable pub dynsym_count : List ℕ → Result ℕ ImageFault
dynsym_count image = image_header image >>> λ h. section_records image h >>> λ r. Ok (dynsym_size (section_headers image r.count r.start) / symtab_entry_size)

-- ---- the whole

-- without a hash table: none if the image has no dynamic symbol table
abbrev pub count_without : List ℕ → Result Part ImageFault → Result ℕ ImageFault
count_without image (Err (faults.NoTable tag)) = Ok 0
count_without image symbols = dynsym_count image

abbrev pub count_by : List ℕ → ImageTables → Option (Result Part ImageFault) → Option (Result Part ImageFault) → Result ℕ ImageFault
count_by image t (Some sysv) gnu = sysv >>> λ p. count_in p (sysv_count (bytes_of image p))
count_by image t None (Some gnu) = gnu >>> λ p. count_in p (gnu_count (bytes_of image p))
count_by image t None None = count_without image t.symbols

-- the number of dynamic symbols, with the null symbol
unfoldable pub symbol_count : List ℕ → ImageTables → Result ℕ ImageFault
symbol_count image t = count_by image t t.sysv_hash t.gnu_hash
