-- The segments of an image match those of its layout.
--   headers_in image        the program headers that a loader reads
--   DescribesSegment l g h      a program header describes a segment of the layout
--   DescribeSegments l gs hs         one header for each segment, in order
--   HasDynamicLinker kind   a dynamic linker loads the output
--   HasDynamicSection l     a dynamic linker, or the output's own first code, reads its dynamic section
use Rattle.std.specs.Prelude.{◌≡◌, ◌≢◌, ℕ, ◌%◌, ◌⊎◌, ⊤, true, false, max, List, [], ◌∷◌, Contains}
use Rattle.wild_records.specs.Abi.Segment.{pt_load, pt_dynamic, pt_gnu_stack, pf_x}
use Rattle.wild_records.specs.FileHeader.{file_header_at}
use Rattle.wild_records.specs.declared.program_header.ProgramHeader.{ProgramHeader}
use Rattle.wild_types.specs.declared.kind.OutputKind.{OutputKind}
use Rattle.wild_types.specs.declared.kind.OutputKind.TheVariants as output
use Rattle.wild_types.specs.declared.kind.RelocationModel.TheVariants as model
use Rattle.wild_types.specs.declared.section.Segment.{Segment}
use Rattle.wild_types.specs.declared.layout.Layout.{Layout}
use Rattle.wild_loader.specs.Headers.{program_headers}
use Rattle.wild_meaning.specs.Section.{IsSet}

-- the program headers that a loader reads
abbrev pub headers_in : List ℕ → List ProgramHeader
headers_in image = program_headers image (file_header_at image 0).program_count (file_header_at image 0).program_offset

-- The header has the segment's type and permissions, its place in the file and in memory, and its alignment.
-- A loaded segment is at least page-aligned, and its address and offset are equal modulo the page size (gABI, "Program Header").
-- That of the stack has only permissions; the stack is executable if the layout requires it (LSB, "Program Header",
-- PT_GNU_STACK).
pub record DescribesSegment (l : Layout) (g : Segment) (h : ProgramHeader) : Type 0 where
  pub kind : h.kind ≡ g.kind
  pub flags : (g.kind ≡ pt_gnu_stack → l.options.execstack ≡ false) → h.flags ≡ g.flags
  pub stack : g.kind ≡ pt_gnu_stack → l.options.execstack ≡ true → IsSet h.flags pf_x
  pub offset : h.offset ≡ g.offset
  pub address : h.address ≡ g.address
  pub physical : h.physical ≡ g.physical
  pub file_size : h.file_size ≡ g.file_size
  pub mem_size : h.mem_size ≡ g.mem_size
  pub align : g.kind ≢ pt_load → g.kind ≢ pt_gnu_stack → h.align ≡ g.align
  pub pages : g.kind ≡ pt_load → h.align ≡ max l.page_size g.align
  pub congruent : g.kind ≡ pt_load → h.address % l.page_size ≡ h.offset % l.page_size

-- one header for each segment, in order
abbrev pub DescribeSegments : Layout → List Segment → List ProgramHeader → Type 0
DescribeSegments l [] [] = ⊤
DescribeSegments l [] (h ∷ hs) = ⊥
DescribeSegments l (g ∷ gs) [] = ⊥
DescribeSegments l (g ∷ gs) (h ∷ hs) = DescribesSegment l g h × DescribeSegments l gs hs

-- a dynamic linker loads the output (gABI, "Dynamic Linking")
abbrev pub HasDynamicLinker : OutputKind → Type 0
HasDynamicLinker (output.DynamicExecutable any) = ⊤
HasDynamicLinker output.SharedObject = ⊤
HasDynamicLinker other = ⊥

-- no dynamic linker loads the output, but it may be loaded at any base and has a segment for a dynamic section, which its own first
-- code reads
pub record ReadsOwnDynamicSection (l : Layout) : Type 0 where
  pub kind : l.kind ≡ output.StaticExecutable model.Relocatable
  pub segment : Segment
  pub listed : Contains l.segments segment
  pub dynamic : segment.kind ≡ pt_dynamic

-- somebody reads the output's dynamic section
abbrev pub HasDynamicSection : Layout → Type 0
HasDynamicSection l = HasDynamicLinker l.kind ⊎ ReadsOwnDynamicSection l
