-- Headers and dynamic sections of images that are refused.
--   WrongSegmentsAreRefused   a segment that is not the layout's
--   WrongStacksAreRefused     another alignment of thread-local data, or other permissions of the stack
--   OtherPlacesAreRefused     a loaded segment whose address and offset differ modulo the page size
--   WrongFieldsAreRefused     a file header with another version or ABI, or other sizes or places of headers
--   WrongSectionsAreRefused   section headers that are not those of the layout's sections
--   NoDynamicIsRefused        an image that a dynamic linker loads, without a dynamic section
--   WrongEntriesAreRefused    an image whose dynamic section has wrong entries
--   OwnSectionsAreJudged      so is the dynamic section that a program's own first code reads
use Rattle.std.specs.Prelude.{◌≡◌, ◌≢◌, ℕ, ◌/◌, ◌%◌, ◌<◌, ◌≤◌, true, false, length, codes, List, [], ◌∷◌, None, Some, Ok, Contains, slice_get}
use Rattle.wild_records.specs.Abi.Dynamic.{dt_needed, dt_auxiliary, dt_pltrel, dt_jmprel, dt_rela, dt_relasz, dt_relaent, dt_relr, dt_relrent, dt_symtab, dt_syment, dt_strsz, dt_init_array, dt_init_arraysz, dt_flags, dt_flags_1, dt_relacount, df_bind_now}
use Rattle.wild_records.specs.Abi.Header.{et_exec}
use Rattle.wild_records.specs.FileHeader.{file_header_at}
use Rattle.wild_records.specs.ProgramHeader.{program_header_at}
use Rattle.wild_records.specs.declared.dynamic.DynamicEntry.{DynamicEntry}
use Rattle.wild_records.specs.declared.program_header.ProgramHeader.{ProgramHeader}
use Rattle.wild_records.specs.declared.relocations.Rela.{Rela}
use Rattle.wild_records.specs.declared.section_header.SectionHeader.{SectionHeader}
use Rattle.wild_records.specs.Abi.Section.{shf_alloc}
use Rattle.wild_records.specs.Abi.Segment.{pt_dynamic, pt_tls, pt_gnu_stack, pf_x}
use Rattle.wild_types.specs.declared.kind.OutputKind.TheVariants as output
use Rattle.wild_types.specs.declared.kind.RelocationModel.TheVariants as model
use Rattle.wild_types.specs.declared.part.Part.{Part}
use Rattle.wild_types.specs.declared.part.Role.TheVariants as role
use Rattle.wild_types.specs.declared.section.Section.{Section}
use Rattle.wild_types.specs.declared.section.Segment.{Segment}
use Rattle.wild_types.specs.Parts.{part_with}
use Rattle.wild_types.specs.declared.layout.Layout.{Layout}
use Rattle.wild_loader.specs.declared.kind.DynamicKind.TheVariants as kinds
use Rattle.wild_loader.specs.declared.tables.Tables.{Tables}
use Rattle.wild_loader.specs.Changes.{kind_of}
use Rattle.wild_loader.specs.Headers.{sections}
use Rattle.wild_loader.specs.Tables.{first_dynamic, value_of_tag, section_of, named_tables}
use Rattle.wild_meaning.specs.World.{IsFixed, IsLoadable}
use Rattle.wild_meaning.specs.Section.{IsSet, IsForDebuggers}
use Rattle.wild_meaning.specs.Segments.{headers_in, HasDynamicSection}
use Rattle.wild_meaning.specs.DynamicSection.{filled_section}
use Rattle.wild_meaning.specs.LinkedImage.{DescribesOutput, IsSound, processor_of}
use Rattle.wild_meaning.specs.Worked.Builders.{loaded_segment}
use Rattle.wild_meaning.specs.Worked.Static.{static_pie}

-- the first program header that a loader reads
abbrev pub first_header : List ℕ → ProgramHeader
first_header image = program_header_at image (file_header_at image 0).program_offset

-- in the worked program without a dynamic linker, which has one segment: another place or size in the file or in memory, other
-- permissions, another alignment, or another number of segments
pub record WrongSegmentsAreRefused : Type 0 where
  pub offset : (image : List ℕ) → DescribesOutput static_pie image → (first_header image).offset ≢ 0x1000 → ⊥
  pub address : (image : List ℕ) → DescribesOutput static_pie image → (first_header image).address ≢ 0x1000 → ⊥
  pub physical : (image : List ℕ) → DescribesOutput static_pie image → (first_header image).physical ≢ 0x1000 → ⊥
  pub file_size : (image : List ℕ) → DescribesOutput static_pie image → (first_header image).file_size ≢ 0x110 → ⊥
  pub mem_size : (image : List ℕ) → DescribesOutput static_pie image → (first_header image).mem_size ≢ 0x110 → ⊥
  pub flags : (image : List ℕ) → DescribesOutput static_pie image → (first_header image).flags ≢ 7 → ⊥
  pub align : (image : List ℕ) → DescribesOutput static_pie image → (first_header image).align ≢ 0x1000 → ⊥
  pub number : (image : List ℕ) → DescribesOutput static_pie image → (file_header_at image 0).program_count ≢ 1 → ⊥

-- a sound image, which has header h at index k of its program headers, where the layout has segment g
pub record HasSegment (l : Layout) (image : List ℕ) (k : ℕ) (g : Segment) (h : ProgramHeader) : Type 0 where
  pub loads : IsLoadable l.kind
  pub sound : IsSound l image
  pub listed : slice_get l.segments k ≡ Some g
  pub there : slice_get (headers_in image) k ≡ Some h

-- for any layout of an output that can be loaded: another alignment of thread-local data; other permissions of the stack, or one
-- that is not executable where the layout requires that
pub record WrongStacksAreRefused : Type 0 where
  pub align : (l : Layout) (image : List ℕ) (k : ℕ) (g : Segment) (h : ProgramHeader) → HasSegment l image k g h → g.kind ≡ pt_tls → h.align ≢ g.align → ⊥
  pub permissions : (l : Layout) (image : List ℕ) (k : ℕ) (g : Segment) (h : ProgramHeader) → HasSegment l image k g h → g.kind ≡ pt_gnu_stack → l.options.execstack ≡ false → h.flags ≢ g.flags → ⊥
  pub executable : (l : Layout) (image : List ℕ) (k : ℕ) (g : Segment) (h : ProgramHeader) → HasSegment l image k g h → g.kind ≡ pt_gnu_stack → l.options.execstack ≡ true → (IsSet h.flags pf_x → ⊥) → ⊥

-- the same program with its segment directly after the headers in the file, so that no system can map it to the start of a page
abbrev pub unpaged_layout : Layout
unpaged_layout = record static_pie { segments = record (loaded_segment 0x1000 0x110 0x110) { offset = 120 } ∷ [] }

abbrev pub OtherPlacesAreRefused : Type 0
OtherPlacesAreRefused = (image : List ℕ) → DescribesOutput unpaged_layout image → ⊥

-- a sound image, which has header h at index k of its section headers, where the layout has section s
pub record HasSection (l : Layout) (image : List ℕ) (k : ℕ) (s : Section) (h : SectionHeader) : Type 0 where
  pub loads : IsLoadable l.kind
  pub sound : IsSound l image
  pub later : 1 ≤ k
  pub listed : slice_get l.sections k ≡ Some s
  pub headers : List SectionHeader
  pub read : sections image (file_header_at image 0) ≡ Ok headers
  pub there : slice_get headers k ≡ Some h

-- for any layout of an output that can be loaded, even if it has no legal world
pub record WrongFieldsAreRefused : Type 0 where
  pub version : (l : Layout) (image : List ℕ) → IsLoadable l.kind → IsSound l image → (file_header_at image 0).version ≢ 1 → ⊥
  pub header : (l : Layout) (image : List ℕ) → IsLoadable l.kind → IsSound l image → (file_header_at image 0).header_size ≢ 64 → ⊥
  pub program : (l : Layout) (image : List ℕ) → IsLoadable l.kind → IsSound l image → (file_header_at image 0).program_entry_size ≢ 56 → ⊥
  pub section : (l : Layout) (image : List ℕ) → IsLoadable l.kind → IsSound l image → (file_header_at image 0).section_entry_size ≢ 64 → ⊥
  pub os_abi : (l : Layout) (image : List ℕ) → IsLoadable l.kind → IsSound l image → (file_header_at image 0).os_abi ≢ 0 → ⊥
  pub abi_version : (l : Layout) (image : List ℕ) → IsLoadable l.kind → IsSound l image → (file_header_at image 0).abi_version ≢ 0 → ⊥
  pub programs : (l : Layout) (image : List ℕ) → IsLoadable l.kind → IsSound l image → (file_header_at image 0).program_offset ≢ 64 → ⊥
  pub flags : (l : Layout) (image : List ℕ) → IsLoadable l.kind → IsSound l image → (file_header_at image 0).flags ≢ 0 → ⊥
  pub fixed : (l : Layout) (image : List ℕ) → IsFixed l.kind → IsLoadable l.kind → IsSound l image → (file_header_at image 0).file_type ≢ et_exec → ⊥
  pub entry : (l : Layout) (image : List ℕ) → l.entry ≡ None → IsLoadable l.kind → IsSound l image → (file_header_at image 0).entry ≢ 0 → ⊥
  pub ident : (l : Layout) (image : List ℕ) → IsLoadable l.kind → IsSound l image → (file_header_at image 0).ident_version ≢ 1 → ⊥

-- for any layout of an output that can be loaded: another number of section headers; or one with another address, place or size, or
-- another type unless only headers are written
pub record WrongSectionsAreRefused : Type 0 where
  pub number : (l : Layout) (image : List ℕ) (hs : List SectionHeader) → IsLoadable l.kind → IsSound l image → sections image (file_header_at image 0) ≡ Ok hs → length hs ≢ length l.sections → ⊥
  pub kind : (l : Layout) (image : List ℕ) (k : ℕ) (s : Section) (h : SectionHeader) → HasSection l image k s h → (IsForDebuggers l → ⊥) → h.kind ≢ s.kind → ⊥
  pub address : (l : Layout) (image : List ℕ) (k : ℕ) (s : Section) (h : SectionHeader) → HasSection l image k s h → h.address ≢ s.address → ⊥
  pub offset : (l : Layout) (image : List ℕ) (k : ℕ) (s : Section) (h : SectionHeader) → HasSection l image k s h → h.offset ≢ s.offset → ⊥
  pub size : (l : Layout) (image : List ℕ) (k : ℕ) (s : Section) (h : SectionHeader) → HasSection l image k s h → h.size ≢ s.size → ⊥
  pub memory : (l : Layout) (image : List ℕ) (k : ℕ) (s : Section) (h : SectionHeader) → HasSection l image k s h → IsSet s.flags shf_alloc → (IsSet h.flags shf_alloc → ⊥) → ⊥

-- for any layout of an output whose dynamic section is read and that is not only for debuggers, even if it has no legal world
abbrev pub NoDynamicIsRefused : Type 0
NoDynamicIsRefused = (l : Layout) (image : List ℕ) → (IsForDebuggers l → ⊥) → HasDynamicSection l → IsSound l image → first_dynamic (headers_in image) ≡ None → ⊥

-- an image of such an output, with these entries in its dynamic section
pub record IsDynamic (l : Layout) (image : List ℕ) (ds : List DynamicEntry) : Type 0 where
  pub whole : IsForDebuggers l → ⊥
  pub linker : HasDynamicSection l
  pub sound : IsSound l image
  pub segment : ProgramHeader
  pub first : first_dynamic (headers_in image) ≡ Some segment
  pub read : section_of image segment ≡ Ok ds

-- Refused are:
-- - flags that allow late binding, or no flags;
-- - entries of another type or size, a size that is not that of whole entries, or one among the relative entries that adds no base;
-- - two values of one tag;
-- - no symbol table where the layout has one, or one at another address; another size of the string table;
-- - an array of functions at another address or with another size, or one that the layout does not have;
-- - no DT_NULL after the entries.
pub record WrongEntriesAreRefused : Type 0 where
  pub none : (l : Layout) (image : List ℕ) (ds : List DynamicEntry) → IsDynamic l image ds → value_of_tag dt_flags ds ≡ None → ⊥
  pub now : (l : Layout) (image : List ℕ) (ds : List DynamicEntry) → IsDynamic l image ds → value_of_tag dt_flags_1 ds ≡ None → ⊥
  pub late : (l : Layout) (image : List ℕ) (ds : List DynamicEntry) (f : ℕ) → IsDynamic l image ds → value_of_tag dt_flags ds ≡ Some f → (IsSet f df_bind_now → ⊥) → ⊥
  pub sort : (l : Layout) (image : List ℕ) (ds : List DynamicEntry) (a n : ℕ) → IsDynamic l image ds → value_of_tag dt_jmprel ds ≡ Some a → value_of_tag dt_pltrel ds ≡ Some n → n ≢ dt_rela → ⊥
  pub size : (l : Layout) (image : List ℕ) (ds : List DynamicEntry) (a n : ℕ) → IsDynamic l image ds → value_of_tag dt_rela ds ≡ Some a → value_of_tag dt_relaent ds ≡ Some n → n ≢ 24 → ⊥
  pub word_size : (l : Layout) (image : List ℕ) (ds : List DynamicEntry) (a n : ℕ) → IsDynamic l image ds → value_of_tag dt_relr ds ≡ Some a → value_of_tag dt_relrent ds ≡ Some n → n ≢ 8 → ⊥
  pub symbol_size : (l : Layout) (image : List ℕ) (ds : List DynamicEntry) (a n : ℕ) → IsDynamic l image ds → value_of_tag dt_symtab ds ≡ Some a → value_of_tag dt_syment ds ≡ Some n → n ≢ 24 → ⊥
  pub cut : (l : Layout) (image : List ℕ) (ds : List DynamicEntry) (n : ℕ) → IsDynamic l image ds → value_of_tag dt_relasz ds ≡ Some n → n % 24 ≢ 0 → ⊥
  pub twice : (l : Layout) (image : List ℕ) (ds : List DynamicEntry) (d : DynamicEntry) (n : ℕ) → IsDynamic l image ds → Contains ds d → d.tag ≢ dt_needed → d.tag ≢ dt_auxiliary → value_of_tag d.tag ds ≡ Some n → n ≢ d.value → ⊥
  pub symbols : (l : Layout) (image : List ℕ) (ds : List DynamicEntry) (p : Part) → IsDynamic l image ds → part_with role.Dynsym l.parts ≡ Some p → 1 ≤ p.size → value_of_tag dt_symtab ds ≡ None → ⊥
  pub elsewhere : (l : Layout) (image : List ℕ) (ds : List DynamicEntry) (p : Part) (a : ℕ) → IsDynamic l image ds → part_with role.Dynsym l.parts ≡ Some p → 1 ≤ p.size → value_of_tag dt_symtab ds ≡ Some a → a ≢ p.address → ⊥
  pub strings : (l : Layout) (image : List ℕ) (ds : List DynamicEntry) (p : Part) (n : ℕ) → IsDynamic l image ds → part_with role.Dynstr l.parts ≡ Some p → 1 ≤ p.size → value_of_tag dt_strsz ds ≡ Some n → n ≢ p.size → ⊥
  pub array : (l : Layout) (image : List ℕ) (ds : List DynamicEntry) (s : Section) (a : ℕ) → IsDynamic l image ds → filled_section l (codes ".init_array") ≡ Some s → value_of_tag dt_init_array ds ≡ Some a → a ≢ s.address → ⊥
  pub array_size : (l : Layout) (image : List ℕ) (ds : List DynamicEntry) (s : Section) (n : ℕ) → IsDynamic l image ds → filled_section l (codes ".init_array") ≡ Some s → value_of_tag dt_init_arraysz ds ≡ Some n → n ≢ s.size → ⊥
  pub no_array : (l : Layout) (image : List ℕ) (ds : List DynamicEntry) (a : ℕ) → IsDynamic l image ds → filled_section l (codes ".init_array") ≡ None → value_of_tag dt_init_array ds ≡ Some a → ⊥
  pub endless : (l : Layout) (image : List ℕ) (ds : List DynamicEntry) (d : IsDynamic l image ds) → d.segment.file_size / 16 ≤ length ds → ⊥
  pub relative : (l : Layout) (image : List ℕ) (ds : List DynamicEntry) (t : Tables) (n k : ℕ) (r : Rela) → IsDynamic l image ds → value_of_tag dt_relacount ds ≡ Some n → named_tables image (headers_in image) ds ≡ Ok t → k < n → slice_get t.entries k ≡ Some r → kind_of (processor_of l.machine) r.number ≢ Some kinds.Relative → ⊥

-- of a program that its own first code relocates, with a segment for a dynamic section: one that allows late binding
abbrev pub OwnSectionsAreJudged : Type 0
OwnSectionsAreJudged =
    (l : Layout) (image : List ℕ) (ds : List DynamicEntry) (g : Segment) (h : ProgramHeader) → (IsForDebuggers l → ⊥) → l.kind ≡ output.StaticExecutable model.Relocatable → Contains l.segments g → g.kind ≡ pt_dynamic → IsSound l image
    → first_dynamic (headers_in image) ≡ Some h → section_of image h ≡ Ok ds → value_of_tag dt_flags ds ≡ None → ⊥
