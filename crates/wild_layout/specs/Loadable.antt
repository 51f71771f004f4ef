-- What segments load, and what a loader finds (gABI, "Program Header", "Dynamic Section").
--   CarriesByte l g o a   a PT_LOAD segment loads the byte at file offset o to address a
--   IsMapped l s     PT_LOAD segments load the input section's bytes to their addresses
--   IsPartMapped l p   PT_LOAD segments load the bytes of a part that a loader or the program reads
--   HasSegment l p   the first segment of type PT_DYNAMIC is that of the part
--   IsCarriedWhole   one PT_LOAD segment loads a part to its addresses
--   IsPaged page g   address and offset of a PT_LOAD segment are equal modulo the page size
--   BeginsAtEnd p q a part begins at the end of another
--   HasEntriesAlone  the section of a part with relocation entries has no other content, and no other section has entries
--   IsLoadable l     the segments can be loaded, and a loader finds the tables where it looks for them
use Rattle.std.specs.Prelude.{◌≡◌, ℕ, ◌+◌, ◌-◌, ◌%◌, ◌^◌, ◌<◌, ◌≤◌, ◌==◌, true, find, All, AllPairs, Contains, slice_get, List, false, Option, Some, None}
use Rattle.wild_records.specs.Abi.Section.{sht_rela}
use Rattle.wild_records.specs.Abi.Segment.{pt_load, pt_dynamic}
use Rattle.wild_types.specs.declared.part.Part.{Part}
use Rattle.wild_types.specs.declared.part.Role.{Role}
use Rattle.wild_types.specs.declared.part.Role.TheVariants as role
use Rattle.wild_types.specs.declared.section.Section.{Section}
use Rattle.wild_types.specs.declared.section.Segment.{Segment}
use Rattle.wild_types.specs.declared.input.InputSection.{InputSection}
use Rattle.wild_types.specs.declared.layout.Layout.{Layout}
use Rattle.wild_types.specs.Kinds.{is_partial_link, needs_dynamic, is_fixed_static}
use Rattle.wild_types.specs.Lookups.{allocated, image_size, is_loaded, is_filled, is_header_only, is_header_only_at}
use Rattle.wild_types.specs.Lists.{total}
use Rattle.wild_types.specs.Parts.{is_loaded_role, part_with, is_table_role, is_look_up_role, has_hashes, is_entry_role, entry_parts, bytes_in}
use Rattle.wild_plan_rules.specs.Segments.{size_in_file}
use Rattle.wild_layout.specs.Image.{offset_in}

-- the segment loads the byte at that file offset to that address
pub record CarriesByte (l : Layout) (g : Segment) (offset address : ℕ) : Type 0 where
  pub listed : Contains l.segments g
  pub loaded : g.kind ≡ pt_load
  pub from : g.address ≤ address
  pub to : address < g.address + g.file_size
  pub distance : offset ≡ g.offset + (address - g.address)

-- the segment loads byte k of the section to its address
pub record IsCarried (l : Layout) (s : InputSection) (k : ℕ) (h : Segment) : Type 0 where
  pub listed : Contains l.segments h
  pub loaded : h.kind ≡ pt_load
  pub from : h.address ≤ s.address + k
  pub to : s.address + k < h.address + h.file_size
  pub distance : offset_in (slice_get l.parts s.part) s.address + k ≡ h.offset + (s.address + k - h.address)

-- each of the section's bytes is loaded, if it is allocated and has bytes in the image
abbrev pub IsMapped : Layout → InputSection → Type 0
IsMapped l s = is_loaded s.slot ≡ true → is_filled l s ≡ true → allocated s.flags ≡ true → (k : ℕ) → k < s.size → (h : Segment) × IsCarried l s k h

-- the segment loads byte k of the part to its address
pub record IsPartCarried (l : Layout) (p : Part) (k : ℕ) (h : Segment) : Type 0 where
  pub listed : Contains l.segments h
  pub loaded : h.kind ≡ pt_load
  pub from : h.address ≤ p.address + k
  pub to : p.address + k < h.address + h.file_size
  pub distance : p.offset + k ≡ h.offset + (p.address + k - h.address)

-- each byte of a part that a loader or the program reads is loaded, unless its section is omitted or the output is relocatable
abbrev pub IsPartMapped : Layout → Part → Type 0
IsPartMapped l p = is_partial_link l.kind ≡ false → is_loaded_role p.role ≡ true → is_header_only_at l p.section ≡ false → (k : ℕ) → k < p.size → (h : Segment) × IsPartCarried l p k h

-- the file bytes of a segment are in the image; a PT_LOAD segment is at least as large in memory as in the file
pub record SegmentLoads (size : ℕ) (h : Segment) : Type 0 where
  pub file : h.offset + h.file_size ≤ size
  pub sizes : h.kind ≡ pt_load → h.file_size ≤ h.mem_size
  pub low : h.address + h.mem_size ≤ 2 ^ 62

-- the segment is not of type PT_DYNAMIC
abbrev pub IsStatic : Segment → Type 0
IsStatic h = h.kind ≡ pt_dynamic → ⊥

-- the first segment of type PT_DYNAMIC (gABI, "Program Header")
abbrev pub first_dynamic : List Segment → Option Segment
first_dynamic segments = find (λ h. h.kind == pt_dynamic) segments

-- there is one, with the part's place and size
pub record HasSegment (l : Layout) (p : Part) : Type 0 where
  pub segment : Segment
  pub first : first_dynamic l.segments ≡ Some segment
  pub offset : segment.offset ≡ p.offset
  pub address : segment.address ≡ p.address
  pub file_size : segment.file_size ≡ size_in_file l p
  pub mem_size : segment.mem_size ≡ p.size

-- the file bytes of one PT_LOAD segment contain the part at its addresses
pub record IsCarriedWhole (l : Layout) (p : Part) : Type 0 where
  pub segment : Segment
  pub listed : Contains l.segments segment
  pub loaded : segment.kind ≡ pt_load
  pub from : segment.address ≤ p.address
  pub to : p.address + p.size ≤ segment.address + segment.file_size
  pub distance : p.offset ≡ segment.offset + (p.address - segment.address)

-- a part begins at the end of another, in the file and in memory
pub record BeginsAtEnd (p q : Part) : Type 0 where
  pub offset : q.offset ≡ p.offset + p.size
  pub address : q.address ≡ p.address + p.size

-- the file bytes of one PT_LOAD segment contain both at their addresses
pub record AreCarriedTogether (l : Layout) (p q : Part) : Type 0 where
  pub segment : Segment
  pub listed : Contains l.segments segment
  pub loaded : segment.kind ≡ pt_load
  pub from : segment.address ≤ p.address
  pub to : q.address + q.size ≤ segment.address + segment.file_size
  pub distance : p.offset ≡ segment.offset + (p.address - segment.address)

-- a part with relocation entries is within the section with header index k
pub record EntriesLie (p : Part) (s : Section) : Type 0 where
  pub kind : s.kind ≡ sht_rela
  pub allocated : allocated s.flags ≡ true
  pub from : s.offset ≤ p.offset
  pub to : p.offset + p.size ≤ s.offset + s.size

-- the section with header index k contains the parts with entries that are in it; if it is allocated and of type SHT_RELA, it has no
-- other bytes
pub record HasEntriesAlone (l : Layout) (k : ℕ) (s : Section) : Type 0 where
  pub own : is_header_only l s ≡ false → (r : Role) (p : Part) → is_entry_role r ≡ true → part_with r l.parts ≡ Some p → p.section ≡ k → EntriesLie p s
  pub full : allocated s.flags ≡ true → s.kind ≡ sht_rela → total (bytes_in k) (entry_parts l.parts) ≡ s.size

-- a PT_LOAD segment ends before a later one begins, or where it begins
abbrev pub Ascends : Segment → Segment → Type 0
Ascends g h = g.kind ≡ pt_load → h.kind ≡ pt_load → g.address + g.mem_size ≤ h.address

-- the address and the offset of a PT_LOAD segment are equal modulo the page size
abbrev pub IsPaged : ℕ → Segment → Type 0
IsPaged page g = g.kind ≡ pt_load → g.address % page ≡ g.offset % page

-- what a loader uses: the dynamic section if there is one, otherwise the sections of type SHT_RELA after section 0
pub record IsLoadable (l : Layout) : Type 0 where
  pub each : All (SegmentLoads (image_size l)) l.segments
  pub ascend : AllPairs Ascends l.segments
  pub pages : All (IsPaged l.page_size) l.segments
  pub dynamic : (p : Part) → part_with role.Dynamic l.parts ≡ Some p → HasSegment l p
  pub static : part_with role.Dynamic l.parts ≡ None → All IsStatic l.segments
  pub movable : needs_dynamic l.kind ≡ true → (p : Part) × (part_with role.Dynamic l.parts ≡ Some p)
  pub fixed : is_fixed_static l.kind ≡ true → part_with role.Dynamic l.parts ≡ None
  pub entries : is_fixed_static l.kind ≡ true → (k : ℕ) (s : Section) → 1 ≤ k → slice_get l.sections k ≡ Some s → HasEntriesAlone l k s
  pub stands : is_fixed_static l.kind ≡ true → (r : Role) (p : Part) → is_entry_role r ≡ true → part_with r l.parts ≡ Some p → 1 ≤ p.section
  pub tables : needs_dynamic l.kind ≡ true → (r : Role) (p : Part) → is_table_role r ≡ true → part_with r l.parts ≡ Some p → is_header_only_at l p.section ≡ false → 1 ≤ p.size → IsCarriedWhole l p
  pub look_ups : needs_dynamic l.kind ≡ true → has_hashes l ≡ true → (r : Role) (p : Part) → is_look_up_role r ≡ true → part_with r l.parts ≡ Some p → is_header_only_at l p.section ≡ false → 1 ≤ p.size → IsCarriedWhole l p
  pub behind : (p q : Part) → part_with role.RelaDynRelative l.parts ≡ Some p → part_with role.RelaDynGeneral l.parts ≡ Some q → BeginsAtEnd p q
  pub together : needs_dynamic l.kind ≡ true → (p q : Part) → part_with role.RelaDynRelative l.parts ≡ Some p → part_with role.RelaDynGeneral l.parts ≡ Some q → is_header_only_at l p.section ≡ false → is_header_only_at l q.section ≡ false → 1 ≤ p.size → 1 ≤ q.size → AreCarriedTogether l p q
