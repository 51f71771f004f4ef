-- Statements about the definitions of loaded segments.
--   DoesNotOverlap p q                  the runs have no address in common
--   IsLoaded m a n               memory has a byte at each of n addresses
--   HasHeaders image e hs ss     e, hs and ss are the headers in the image
--   AreLoadable base image hs    the segments of these headers can be loaded at a base
--   loaded_runs base image hs    the runs of these segments, in order
--   loaded_memory machine ..     memory of these runs, before any entry changes it
use Rattle.std.specs.Prelude.{◌≡◌, ℕ, ◌+◌, ◌-◌, ◌^◌, ◌<◌, ◌≤◌, true, ◌==◌, if◌then◌else◌, List, [], ◌∷◌, ◌++◌, length, replicate, None, is_some, ◌⊎◌, All, AllPairs, Contains}
use Rattle.std.specs.List.{flat_map}
use Rattle.wild_words.specs.Words.{word, HasBytesAt}
use Rattle.wild_words.specs.Record.{spell}
use Rattle.wild_records.specs.Abi.Section.{shn_undef}
use Rattle.wild_records.specs.Abi.Segment.{pt_load}
use Rattle.wild_records.specs.Dynamic.{dynamic_entry_fields}
use Rattle.wild_records.specs.FileHeader.{file_header_fields, FileHeaderFits}
use Rattle.wild_records.specs.ProgramHeader.{program_header_fields, ProgramHeaderFits}
use Rattle.wild_records.specs.Relocations.{rela_fields}
use Rattle.wild_records.specs.SectionHeader.{section_header_fields, SectionHeaderFits}
use Rattle.wild_records.specs.declared.dynamic.DynamicEntry.{DynamicEntry}
use Rattle.wild_records.specs.declared.file_header.FileHeader.{FileHeader}
use Rattle.wild_records.specs.declared.program_header.ProgramHeader.{ProgramHeader}
use Rattle.wild_records.specs.declared.relocations.Rela.{Rela}
use Rattle.wild_records.specs.declared.section_header.SectionHeader.{SectionHeader}
use Rattle.wild_loader.specs.declared.memory.Machine.{Machine}
use Rattle.wild_loader.specs.declared.memory.Memory.{Memory}
use Rattle.wild_loader.specs.declared.memory.Run.{Run}
use Rattle.wild_loader.specs.Memory.{memory_of, byte_in, Holds}
use Rattle.wild_loader.specs.Runs.{shared_address, overlay_runs}
use Rattle.wild_loader.specs.Segments.{runs_of}

-- ---- bytes written over memory

-- the runs have no address in common
abbrev pub DoesNotOverlap : Run → Run → Type 0
DoesNotOverlap p q = shared_address p q ≡ None

-- of two consecutive ranges none contains an address of the other
abbrev pub ConsecutiveDoNotOverlap : Type 0
ConsecutiveDoNotOverlap = (p q : Run) → (p.start + length p.bytes ≤ q.start) ⊎ (q.start + length q.bytes ≤ p.start) → DoesNotOverlap p q

-- memory has a byte at each of n addresses
abbrev pub IsLoaded : Memory → ℕ → ℕ → Type 0
IsLoaded m a n = (k : ℕ) → k < n → is_some (byte_in m (a + k)) ≡ true

-- a run has no byte at an address
abbrev pub IsOutsideRun : ℕ → Run → Type 0
IsOutsideRun a p = (a < p.start) ⊎ (p.start + length p.bytes ≤ a)

-- memory with parts written over it
abbrev pub write_parts : List Run → Memory → Memory
write_parts parts m = record m { runs = overlay_runs parts m.runs }

-- each part written over memory is there, if no two share an address and all are on loaded bytes
abbrev pub PartsAreHeld : Type 0
PartsAreHeld = (m : Memory) (parts : List Run) (p : Run) → AllPairs DoesNotOverlap parts → Contains parts p → IsLoaded m p.start (length p.bytes) → Holds (write_parts parts m) p.start p.bytes

-- a byte outside every part is as before
abbrev pub OthersAreKept : Type 0
OthersAreKept = (m : Memory) (parts : List Run) (a : ℕ) → All (IsOutsideRun a) parts → byte_in (write_parts parts m) a ≡ byte_in m a

-- ---- headers

abbrev pub first_size : List SectionHeader → ℕ
first_size [] = 0
first_size (s ∷ ss) = s.size

-- the number of section headers of an image: e_shnum or, if that is 0, the size of section header 0 (gABI, "ELF Header")
abbrev pub section_header_count : FileHeader → List SectionHeader → ℕ
section_header_count e ss = if e.section_count == shn_undef then first_size ss else e.section_count

-- the bytes of each record
abbrev pub program_bytes : ProgramHeader → List ℕ
program_bytes h = spell (program_header_fields h)

abbrev pub section_bytes : SectionHeader → List ℕ
section_bytes s = spell (section_header_fields s)

abbrev pub dynamic_bytes : DynamicEntry → List ℕ
dynamic_bytes d = spell (dynamic_entry_fields d)

abbrev pub rela_bytes : Rela → List ℕ
rela_bytes r = spell (rela_fields r)

abbrev pub word_bytes : ℕ → List ℕ
word_bytes x = word 8 x

-- the headers are in the image at the offsets in the file header, and each number is in its field's range
pub record HasHeaders (image : List ℕ) (e : FileHeader) (hs : List ProgramHeader) (ss : List SectionHeader) : Type 0 where
  pub fits : FileHeaderFits e
  pub file_header : HasBytesAt image 0 (spell (file_header_fields e))
  pub programs_fit : All ProgramHeaderFits hs
  pub programs : HasBytesAt image e.program_offset (flat_map program_bytes hs)
  pub program_count : e.program_count ≡ length hs
  pub sections_fit : All SectionHeaderFits ss
  pub sections : HasBytesAt image e.section_offset (flat_map section_bytes ss)
  pub section_count : section_header_count e ss ≡ length ss
  pub some_section : 0 < length ss

-- ---- segments

-- a segment whose file bytes are in an image of n bytes and fit in its memory size, and whose end does not wrap
pub record IsLoadable (base n : ℕ) (h : ProgramHeader) : Type 0 where
  pub file : h.offset + h.file_size ≤ n
  pub sizes : h.file_size ≤ h.mem_size
  pub end : base + h.address + h.mem_size ≤ 2 ^ 64

-- a segment to load (PT_LOAD) ends at or before the start of a later one
abbrev pub Ascends : ProgramHeader → ProgramHeader → Type 0
Ascends g h = g.kind ≡ pt_load → h.kind ≡ pt_load → g.address + g.mem_size ≤ h.address

-- the segments to load are in ascending order, and can be loaded at the base
pub record AreLoadable (base : ℕ) (image : List ℕ) (hs : List ProgramHeader) : Type 0 where
  pub each : All (λ h. h.kind ≡ pt_load → IsLoadable base (length image) h) hs
  pub ascend : AllPairs Ascends hs

-- the runs of the segments to load, in order
abbrev pub loaded_runs : ℕ → List ℕ → List ProgramHeader → List Run
loaded_runs base image [] = []
loaded_runs base image (h ∷ hs) = (if h.kind == pt_load then runs_of base image h else []) ++ loaded_runs base image hs

-- memory of these runs, before any entry changes it
abbrev pub loaded_memory : Machine → ℕ → List ℕ → List ProgramHeader → Memory
loaded_memory machine base image hs = memory_of machine (loaded_runs base image hs)

-- the file bytes of a segment are in memory at the same distance from the segment's address
abbrev pub BytesAreLoaded : Type 0
BytesAreLoaded = (machine : Machine) (base : ℕ) (image : List ℕ) (hs : List ProgramHeader) (h : ProgramHeader) (part : List ℕ) (place a : ℕ) → AreLoadable base image hs → Contains hs h → h.kind ≡ pt_load
    → h.address ≤ a → a + length part ≤ h.address + h.file_size → place ≡ h.offset + (a - h.address) → HasBytesAt image place part
    → Holds (loaded_memory machine base image hs) (base + a) part

-- the memory after the file bytes of a segment is zero
abbrev pub ZerosAreLoaded : Type 0
ZerosAreLoaded = (machine : Machine) (base : ℕ) (image : List ℕ) (hs : List ProgramHeader) (h : ProgramHeader) (a n : ℕ) → AreLoadable base image hs → Contains hs h → h.kind ≡ pt_load
    → h.address + h.file_size ≤ a → a + n ≤ h.address + h.mem_size
    → Holds (loaded_memory machine base image hs) (base + a) (replicate n 0)
