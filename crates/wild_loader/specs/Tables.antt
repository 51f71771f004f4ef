-- The tables of an image that are applied (gABI, "Dynamic Section", "Relocation").
--   tables image e hs   those that the dynamic section names; without one, those of allocated sections
use Rattle.std.specs.Prelude.{ℕ, zero, suc, ◌+◌, ◌-◌, ◌/◌, ◌%◌, ◌^◌, Bool, not, ◌&&◌, ◌==◌, if◌then◌else◌, nat_lt, nat_le, List, [], ◌∷◌, ◌++◌, length, Option, Some, None, Result, Ok, Err}
use Rattle.wild_records.specs.Abi.Dynamic.{dt_null, dt_rela, dt_relasz, dt_jmprel, dt_pltrelsz, dt_relr, dt_relrsz}
use Rattle.wild_records.specs.Abi.Section.{sht_rela, shf_alloc}
use Rattle.wild_records.specs.Abi.Segment.{pt_load, pt_dynamic}
use Rattle.wild_records.specs.Dynamic.{dynamic_entry_size, dynamic_entry_at}
use Rattle.wild_records.specs.Relocations.{rela_size, rela_at, relr_size, relr_at}
use Rattle.wild_records.specs.declared.dynamic.DynamicEntry.{DynamicEntry}
use Rattle.wild_records.specs.declared.file_header.FileHeader.{FileHeader}
use Rattle.wild_records.specs.declared.program_header.ProgramHeader.{ProgramHeader}
use Rattle.wild_records.specs.declared.section_header.SectionHeader.{SectionHeader}
use Rattle.wild_records.specs.declared.relocations.Rela.{Rela}
use Rattle.wild_loader.specs.declared.fault.LoadFault.{LoadFault}
use Rattle.wild_loader.specs.declared.fault.LoadFault.TheVariants as faults
use Rattle.wild_loader.specs.declared.tables.Tables.{Tables}
use Rattle.wild_loader.specs.declared.tables.Span.{Span}
use Rattle.wild_loader.specs.Outcome.{◌>>=◌}
use Rattle.wild_loader.specs.Headers.{table_in_image, sections}

-- ---- entries in the image

-- `count` entries with addends from an offset on
unfoldable pub relas_at : List ℕ → ℕ → ℕ → List Rela
relas_at image zero at = []
relas_at image (suc count) at = rela_at image at ∷ relas_at image count (at + rela_size)

-- `count` words from an offset on
unfoldable pub words_at : List ℕ → ℕ → ℕ → List ℕ
words_at image zero at = []
words_at image (suc count) at = (relr_at image at).entry ∷ words_at image count (at + relr_size)

-- the dynamic entries before the first DT_NULL, among `count` entries from an offset on
unfoldable pub dynamic_entries : List ℕ → ℕ → ℕ → List DynamicEntry
dynamic_entries image zero at = []
dynamic_entries image (suc count) at = if (dynamic_entry_at image at).tag == dt_null then [] else dynamic_entry_at image at ∷ dynamic_entries image count (at + dynamic_entry_size)

-- ---- the tables that the dynamic section names

-- the first segment of type PT_DYNAMIC
unfoldable pub first_dynamic : List ProgramHeader → Option ProgramHeader
first_dynamic [] = None
first_dynamic (h ∷ hs) = if h.kind == pt_dynamic then Some h else first_dynamic hs

-- the value of the first entry with a tag
unfoldable pub value_of_tag : ℕ → List DynamicEntry → Option ℕ
value_of_tag tag [] = None
value_of_tag tag (d ∷ ds) = if d.tag == tag then Some d.value else value_of_tag tag ds

-- the segment is loaded and contains an address
abbrev pub has_in_memory : ProgramHeader → ℕ → Bool
has_in_memory h a = h.kind == pt_load && nat_le h.address a && nat_lt a (h.address + h.mem_size)

-- the offset of an address of a segment
abbrev pub offset_in : ProgramHeader → ℕ → ℕ
offset_in h a = h.offset + (a - h.address)

-- n bytes at an address of a segment are in its file bytes and in the image; otherwise the fault is Cut
abbrev pub span_in : List ℕ → ProgramHeader → ℕ → ℕ → Result Span LoadFault
span_in image h a n = if nat_le (a + n) (h.address + h.file_size) && nat_le (offset_in h a + n) (length image) then Ok (record { offset = offset_in h a; size = n }) else Err (faults.Cut (offset_in h a % 2 ^ 64))

-- the file bytes of n bytes at an address, in the first segment that contains the address
unfoldable pub span_at : List ℕ → List ProgramHeader → ℕ → ℕ → Result Span LoadFault
span_at image [] a n = Err (faults.Cut a)
span_at image (h ∷ hs) a n = if has_in_memory h a then span_in image h a n else span_at image hs a n

-- no bytes
abbrev pub no_span : Span
no_span = record { offset = 0; size = 0 }

-- the file bytes of a table, from its address and size, each the value of a tag; a table of size 0 is empty, whatever its address
abbrev pub span_of : List ℕ → List ProgramHeader → ℕ → ℕ → Option ℕ → Option ℕ → Result Span LoadFault
span_of image hs tag size_tag (Some a) (Some n) = if n == 0 then Ok no_span else span_at image hs a n
span_of image hs tag size_tag (Some a) None = Err (faults.NoTable tag)
span_of image hs tag size_tag None (Some n) = Err (faults.NoTable size_tag)
span_of image hs tag size_tag None None = Ok no_span

-- the file bytes of the table that two tags name
unfoldable pub table_of : List ℕ → List ProgramHeader → List DynamicEntry → ℕ → ℕ → Result Span LoadFault
table_of image hs ds tag size_tag = span_of image hs tag size_tag (value_of_tag tag ds) (value_of_tag size_tag ds)

-- the tables that dynamic entries name; a remainder shorter than an entry is not read
unfoldable pub named_tables : List ℕ → List ProgramHeader → List DynamicEntry → Result Tables LoadFault
named_tables image hs ds =
    table_of image hs ds dt_relr dt_relrsz
    >>= λ r. table_of image hs ds dt_rela dt_relasz
    >>= λ a. table_of image hs ds dt_jmprel dt_pltrelsz
    >>= λ j. Ok (record { words = words_at image (r.size / relr_size) r.offset; entries = relas_at image (a.size / rela_size) a.offset; jumps = relas_at image (j.size / rela_size) j.offset })

-- the entries of the dynamic section of a segment, which is in the image; an empty one has none, whatever its offset
abbrev pub section_of : List ℕ → ProgramHeader → Result (List DynamicEntry) LoadFault
section_of image d = if d.file_size == 0 then Ok [] else (table_in_image image d.offset d.file_size 1 >>= λ lies. Ok (dynamic_entries image (d.file_size / dynamic_entry_size) d.offset))

-- the tables that the dynamic section of a segment names
unfoldable pub dynamic_tables : List ℕ → List ProgramHeader → ProgramHeader → Result Tables LoadFault
dynamic_tables image hs d = section_of image d >>= λ ds. named_tables image hs ds

-- ---- the tables of sections

-- a section of type SHT_RELA with SHF_ALLOC that is not empty (gABI, "Section Header")
abbrev pub has_entries : SectionHeader → Bool
has_entries s = s.kind == sht_rela && s.flags / shf_alloc % 2 == 1 && not (s.size == 0)

-- the entries, followed by those of a section, which is in the image
abbrev pub with_section : List ℕ → SectionHeader → List Rela → Result (List Rela) LoadFault
with_section image s entries = table_in_image image s.offset s.size 1 >>= λ lies. Ok (entries ++ relas_at image (s.size / rela_size) s.offset)

-- the entries, followed by those of sections
unfoldable pub section_entries : List ℕ → List SectionHeader → List Rela → Result (List Rela) LoadFault
section_entries image [] entries = Ok entries
section_entries image (s ∷ ss) entries =
    if has_entries s
    then (with_section image s entries >>= λ more. section_entries image ss more)
    else section_entries image ss entries

-- the tables of allocated sections
unfoldable pub section_tables : List ℕ → FileHeader → Result Tables LoadFault
section_tables image e = sections image e >>= λ ss. section_entries image ss [] >>= λ entries. Ok (record { words = []; entries = entries; jumps = [] })

-- ---- the whole

abbrev pub tables_of_image : List ℕ → FileHeader → List ProgramHeader → Option ProgramHeader → Result Tables LoadFault
tables_of_image image e hs (Some d) = dynamic_tables image hs d
tables_of_image image e hs None = section_tables image e

-- the tables that are applied
unfoldable pub tables : List ℕ → FileHeader → List ProgramHeader → Result Tables LoadFault
tables image e hs = tables_of_image image e hs (first_dynamic hs)
