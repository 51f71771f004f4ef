-- What a reader of the headers finds.
--   SectionCountIsRead   the number of sections is in the file header, or from SHN_LORESERVE on in section header 0
--   NameTableIsRead      so is the header index of .shstrtab
--   CountsAtTheLimit     the largest number of sections that fits in the file header, and the next one
--   LengthsOfHeaders     the headers have the lengths that wild_needs computes
--   ProgramHeadersAreRead  program header k is at offset 56 k
--   SectionHeadersAreRead  section header k is at offset 64 k
--   SectionNamesAreRead           the name of section k is at the offset in its header
use Rattle.std.specs.Prelude.{◌≡◌, ℕ, ◌*◌, ◌<◌, ◌≤◌, [], ◌∷◌, ◌++◌, length, slice_index_or}
use Rattle.wild_words.specs.Words.{HasBytesAt}
use Rattle.wild_words.specs.Record.{spell}
use Rattle.wild_records.specs.Abi.Section.{shn_undef, shn_loreserve, shn_xindex}
use Rattle.wild_records.specs.ProgramHeader.{program_header_size, program_header_fields}
use Rattle.wild_records.specs.SectionHeader.{section_header_size, section_header_fields}
use Rattle.wild_records.specs.declared.section_header.SectionHeader.{SectionHeader}
use Rattle.wild_types.specs.declared.part.Role.TheVariants as role
use Rattle.wild_types.specs.declared.section.Section.{Section}
use Rattle.wild_types.specs.declared.section.Segment.{Segment}
use Rattle.wild_types.specs.declared.layout.Layout.{Layout}
use Rattle.wild_needs.specs.Needs.{bytes_per_image}
use Rattle.wild_table_formats.specs.Headers.{file_header, program_header, name_table, null_header, section_headers_of, file_header_bytes, program_header_bytes, section_header_bytes, names_of}

-- the headers and the section names have the lengths that wild_needs computes for their parts
pub record LengthsOfHeaders (l : Layout) : Type 0 where
  pub file_header : length (file_header_bytes l) ≡ bytes_per_image l role.FileHeader
  pub program_headers : length (program_header_bytes l) ≡ bytes_per_image l role.ProgramHeaders
  pub section_headers : length (section_header_bytes l) ≡ bytes_per_image l role.SectionHeaders
  pub names : length (names_of l) ≡ bytes_per_image l role.Shstrtab

abbrev pub HeadersHaveTheirLengths : Type 0
HeadersHaveTheirLengths = (l : Layout) → LengthsOfHeaders l

-- a number below SHN_LORESERVE is in its field of the file header, and its field of section header 0 is 0; from there on the file
-- header has the escape, and section header 0 the number (gABI, "ELF Header", e_shnum, e_shstrndx; "Sections")
pub record IsInOneHeader (n escape field other : ℕ) : Type 0 where
  pub small : n < shn_loreserve → (field ≡ n) × (other ≡ 0)
  pub large : shn_loreserve ≤ n → (field ≡ escape) × (other ≡ n)

-- the number of sections
abbrev pub SectionCountIsRead : Type 0
SectionCountIsRead = (l : Layout) → IsInOneHeader (length l.sections) shn_undef (file_header l).section_count (null_header l).size

-- the header index of .shstrtab
abbrev pub NameTableIsRead : Type 0
NameTableIsRead = (l : Layout) → IsInOneHeader (name_table l) shn_xindex (file_header l).name_table (null_header l).link

-- the largest number of sections that fits in the file header, and the next one
pub record SectionCountsAtTheLimit (l : Layout) : Type 0 where
  pub last : length l.sections ≡ 65279 → ((file_header l).section_count ≡ 65279) × ((null_header l).size ≡ 0)
  pub next : length l.sections ≡ 65280 → ((file_header l).section_count ≡ 0) × ((null_header l).size ≡ 65280)

abbrev pub CountsAtTheLimit : Type 0
CountsAtTheLimit = (l : Layout) → SectionCountsAtTheLimit l

-- the header of segment k
abbrev pub ProgramHeadersAreRead : Type 0
ProgramHeadersAreRead = (l : Layout) (k : ℕ) (d : Segment) → k < length l.segments
    → HasBytesAt (program_header_bytes l) (program_header_size * k) (spell (program_header_fields (program_header l (slice_index_or l.segments k d))))

-- section header k
abbrev pub SectionHeadersAreRead : Type 0
SectionHeadersAreRead = (l : Layout) (k : ℕ) (d : SectionHeader) → k < length l.sections
    → HasBytesAt (section_header_bytes l) (section_header_size * k) (spell (section_header_fields (slice_index_or (section_headers_of l l.sections) k d)))

-- the name of section k and the zero that ends it, at the offset in its header
abbrev pub SectionNamesAreRead : Type 0
SectionNamesAreRead = (l : Layout) (k : ℕ) (d : Section) (h : SectionHeader) → 1 ≤ k → k < length l.sections
    → HasBytesAt (names_of l) (slice_index_or (section_headers_of l l.sections) k h).name ((slice_index_or l.sections k d).name ++ 0 ∷ [])
