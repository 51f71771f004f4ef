-- The section headers of an image match the sections of its layout.
--   DescribesSection l s h     a section header describes a section of the layout
--   DescribesSections l image e   a reader finds one header for each section, in order
use Rattle.std.specs.Prelude.{◌≡◌, ℕ, ◌/◌, ◌%◌, ◌≤◌, List, length, Ok, Some, slice_get}
use Rattle.wild_records.specs.Abi.Section.{sht_nobits, shf_alloc}
use Rattle.wild_records.specs.declared.file_header.FileHeader.{FileHeader}
use Rattle.wild_records.specs.declared.section_header.SectionHeader.{SectionHeader}
use Rattle.wild_types.specs.declared.section.Section.{Section}
use Rattle.wild_types.specs.declared.layout.Layout.{Layout}
use Rattle.wild_loader.specs.Headers.{sections}
use Rattle.wild_meaning.specs.Section.{IsHeaderOnlySection}

-- The header has the section's type, its address, and its place and size in the file; and it says whether the section has memory
-- (gABI, "Section Header"). A section of which only the header is written has no bytes in the file (SHT_NOBITS).
pub record DescribesSection (l : Layout) (s : Section) (h : SectionHeader) : Type 0 where
  pub kind : (IsHeaderOnlySection l s → ⊥) → h.kind ≡ s.kind
  pub bare : IsHeaderOnlySection l s → h.kind ≡ sht_nobits
  pub address : h.address ≡ s.address
  pub offset : h.offset ≡ s.offset
  pub size : h.size ≡ s.size
  pub memory : h.flags / shf_alloc % 2 ≡ s.flags / shf_alloc % 2

-- A reader finds as many headers as the layout has sections, each at the section's index. Header 0 describes no section (gABI,
-- "Sections": SHN_UNDEF).
pub record DescribesSections (l : Layout) (image : List ℕ) (e : FileHeader) : Type 0 where
  pub headers : List SectionHeader
  pub read : sections image e ≡ Ok headers
  pub number : length headers ≡ length l.sections
  pub each : (k : ℕ) (s : Section) (h : SectionHeader) → 1 ≤ k → slice_get l.sections k ≡ Some s → slice_get headers k ≡ Some h → DescribesSection l s h
