-- The requirements of a layout on its image.
--   HasStandardFields e         the file header has the standard version and ABI, and the right sizes and place of headers
--   HasHeader l image     the file header has the output's type and entry; segments and sections are the layout's
--   IsSectionWithoutData l s           the input section is loaded, allocated and has no data
--   IsNotCopied l w a     the address is in no copied symbol
--   HoldsTexts l w m      memory has the merged strings, and the path of the interpreter
--   DescribesOutput l image   the headers are right, and a dynamic linker has its information
--   IsLinked l w image    in that world the loader accepts the image, and memory is as required
--   IsSound l image       the image describes its output, and is linked in every legal world
use Rattle.std.specs.Prelude.{◌≡◌, ℕ, ◌+◌, ◌%◌, ◌^◌, ◌<◌, ◌≤◌, ◌⊎◌, true, false, length, List, None, Some, Ok, Contains, slice_get}
use Rattle.std.specs.List.{flat_map}
use Rattle.wild_words.specs.Words.{HasBytesAt}
use Rattle.wild_words.specs.Record.{spell}
use Rattle.wild_records.specs.Abi.Header.{elfosabi_none, ev_current, et_exec, et_dyn}
use Rattle.wild_records.specs.Abi.Section.{shf_alloc, shf_tls}
use Rattle.wild_records.specs.FileHeader.{file_header_size, FileHeaderFits, file_header_fields}
use Rattle.wild_records.specs.ProgramHeader.{program_header_size}
use Rattle.wild_records.specs.SectionHeader.{section_header_size}
use Rattle.wild_records.specs.declared.file_header.FileHeader.{FileHeader}
use Rattle.wild_types.specs.declared.kind.Machine.{Machine}
use Rattle.wild_types.specs.declared.kind.Machine.TheVariants as machine
use Rattle.wild_types.specs.declared.part.Part.{Part}
use Rattle.wild_types.specs.declared.part.Role.TheVariants as role
use Rattle.wild_types.specs.declared.input.InputSection.{InputSection}
use Rattle.wild_types.specs.declared.layout.Entry.TheVariants as entry
use Rattle.wild_types.specs.declared.layout.Layout.{Layout}
use Rattle.wild_types.specs.declared.layout.Merged.{Merged}
use Rattle.wild_types.specs.Flags.{ifunc}
use Rattle.wild_loader.specs.declared.world.World.{World}
use Rattle.wild_loader.specs.declared.world.Answer.{Answer}
use Rattle.wild_loader.specs.declared.memory.Machine.{Machine as Processor}
use Rattle.wild_loader.specs.declared.memory.Machine.TheVariants as processors
use Rattle.wild_loader.specs.declared.memory.Memory.{Memory}
use Rattle.wild_loader.specs.Load.{load}
use Rattle.wild_loader.specs.Memory.{byte_in, Holds}
use Rattle.wild_meaning.specs.World.{IsFixed, IsMovable, IsLoadable, IsLegal, IsPastFileBytes, HasCopy}
use Rattle.wild_meaning.specs.Section.{IsSet, IsAllocatedPart, IsForDebuggers, IsHeaderOnly, HasFileBytes}
use Rattle.wild_meaning.specs.Segments.{headers_in, DescribeSegments, HasDynamicSection}
use Rattle.wild_meaning.specs.SectionHeaders.{DescribesSections}
use Rattle.wild_meaning.specs.DynamicSection.{InformsLinker}
use Rattle.wild_meaning.specs.Value.{IsDefinedBy, IsResolved, HasFlag}
use Rattle.wild_meaning.specs.Denotes.{HasStub, IsStub}
use Rattle.wild_types.specs.Item.{Item}
use Rattle.wild_meaning.specs.Item.{IsInput, IsLoadedSlot, IsKept}
use Rattle.wild_meaning.specs.Reference.{ItemHolds}
use Rattle.wild_meaning.specs.Unfilled.{IsFileByte, IsUnfilled}

-- an address was decided for symbol i's definition, which is not an IFUNC
pub record HasResolvedAddress (l : Layout) (i a : ℕ) : Type 0 where
  pub definition : ℕ
  pub defined : IsDefinedBy l i definition
  pub given : IsResolved l definition a
  pub plain : HasFlag l i ifunc false

-- The version and the sizes of headers are those of the standard, no system's extensions are used, and e_flags is 0 (gABI,
-- "ELF Header": EI_VERSION, EI_OSABI, EI_ABIVERSION, e_version, e_ehsize, e_phentsize, e_shentsize; x86-64 psABI and aaelf64,
-- "ELF Header": e_flags). The program headers directly follow the file header (e_phoff).
pub record HasStandardFields (e : FileHeader) : Type 0 where
  pub ident_version : e.ident_version ≡ ev_current
  pub os_abi : e.os_abi ≡ elfosabi_none
  pub abi_version : e.abi_version ≡ 0
  pub programs : e.program_offset ≡ file_header_size
  pub version : e.version ≡ ev_current
  pub header : e.header_size ≡ file_header_size
  pub program : e.program_entry_size ≡ program_header_size
  pub section : e.section_entry_size ≡ section_header_size
  pub flags : e.flags ≡ 0

-- The file header says whether the output may be loaded at any base, and has its entry: an address, that of a symbol, or 0 if the
-- layout gives none (gABI, "ELF Header", e_type and e_entry). The program headers are those of the layout's segments, the section
-- headers those of its sections.
pub record HasHeader (l : Layout) (image : List ℕ) : Type 0 where
  pub header : FileHeader
  pub fits : FileHeaderFits header
  pub stands : HasBytesAt image 0 (spell (file_header_fields header))
  pub fixed : IsFixed l.kind → header.file_type ≡ et_exec
  pub movable : IsMovable l.kind → header.file_type ≡ et_dyn
  pub address : (a : ℕ) → l.entry ≡ Some (entry.Address a) → header.entry ≡ a
  pub symbol : (i a : ℕ) → l.entry ≡ Some (entry.Symbol i) → HasResolvedAddress l i a → header.entry ≡ a
  pub none : l.entry ≡ None → header.entry ≡ 0
  pub fields : HasStandardFields header
  pub segments : DescribeSegments l l.segments (headers_in image)
  pub sections : DescribesSections l image header

-- A loaded, allocated input section without data. Thread-local ones have no memory in the image itself unless their section has
-- bytes in the file: then they are in the data that each thread gets a copy of (gABI, SHF_TLS).
pub record IsSectionWithoutData (l : Layout) (s : InputSection) : Type 0 where
  pub input : IsInput l s
  pub loaded : IsLoadedSlot s.slot
  pub room : IsSet s.flags shf_alloc
  pub template : IsSet s.flags shf_tls → HasFileBytes l s.part
  pub blank : s.nobits ≡ true

-- the address is in no copied symbol
abbrev pub IsNotCopied : Layout → World → ℕ → Type 0
IsNotCopied l w a = (i raw : ℕ) (x : Answer) → HasCopy l w i raw x → (a < raw) ⊎ (raw + length x.bytes ≤ a)

-- memory has these bytes at the address of part n, if the part has memory and is written
abbrev pub HoldsInPart : Layout → World → Memory → ℕ → Part → List ℕ → Type 0
HoldsInPart l w m n p bytes = slice_get l.parts n ≡ Some p → IsAllocatedPart l n → (IsHeaderOnly l p → ⊥) → Holds m (w.base + p.address) bytes

-- the merged strings of a part, consecutively
abbrev pub string_bytes : Merged → List ℕ
string_bytes g = flat_map (λ bs. bs) g.strings

-- memory has merged strings from the start of their part on (gABI, "Section Header": SHF_MERGE), and the path of the interpreter
-- in its part (gABI, "Program Interpreter")
pub record HoldsTexts (l : Layout) (w : World) (m : Memory) : Type 0 where
  pub strings : (g : Merged) (p : Part) → Contains l.merged g → HoldsInPart l w m g.part p (string_bytes g)
  pub interpreter : (n : ℕ) (p : Part) → p.role ≡ role.Interp → HoldsInPart l w m n p l.interp

-- the machine of the output
abbrev pub processor_of : Machine → Processor
processor_of machine.X86_64 = processors.X86_64
processor_of machine.AArch64 = processors.AArch64

-- The headers describe the layout's output, and a dynamic section has the information that its linker, or its own first code, needs.
-- An image only for debuggers has no such section.
pub record DescribesOutput (l : Layout) (image : List ℕ) : Type 0 where
  pub header : HasHeader l image
  pub dynamic : (IsForDebuggers l → ⊥) → HasDynamicSection l → InformsLinker l (processor_of l.machine) image

-- The loader accepts the image for the layout's machine, and in memory:
-- - each kept item holds;
-- - each stub jumps by its symbol's first slot, whether or not a reference uses it;
-- - copied symbols have their bytes;
-- - merged strings and the interpreter's path are there;
-- - bytes of the file are as in the file, outside kept sections, slots, frames and copies;
-- - other sections without data are zero, after file bytes or among sections that have some.
-- An image only for debuggers has no table that a loader applies.
pub record IsLinked (l : Layout) (w : World) (image : List ℕ) : Type 0 where
  pub memory : Memory
  pub accepted : load w image ≡ Ok memory
  pub machine : memory.machine ≡ processor_of l.machine
  pub kept : (item : Item) → IsKept l item → ItemHolds l w memory item
  pub stubs : (IsForDebuggers l → ⊥) → (i p : ℕ) → HasStub l i p → IsStub l w memory i ((w.base + p) % 2 ^ 64)
  pub zeros : (s : InputSection) (k : ℕ) → IsSectionWithoutData l s → k < s.size → IsPastFileBytes l (s.address + k) ⊎ HasFileBytes l s.part → IsNotCopied l w (s.address + k) → byte_in memory (w.base + s.address + k) ≡ Some 0
  pub copies : (IsForDebuggers l → ⊥) → (i raw : ℕ) (x : Answer) → HasCopy l w i raw x → Holds memory (w.base + raw) x.bytes
  pub texts : HoldsTexts l w memory
  pub still : (a b : ℕ) → IsFileByte l image a b → IsUnfilled l w a → byte_in memory (w.base + a) ≡ Some b

-- If the output can be loaded at all, its image describes it, whatever the world, and is linked in every legal world.
abbrev pub IsSound : Layout → List ℕ → Type 0
IsSound l image = IsLoadable l.kind → DescribesOutput l image × ((w : World) → IsLegal l w → IsLinked l w image)
