-- The memory that a loader makes of an image.
--   headers_of l       the program headers of the image
--   image_memory l w   its loaded segments in a world, before any entry is applied
--   IsStored l s       the section, as placed, has its bytes in the file, and loaded segments have each at its address
--   EachDecided l      each section that is read and written has decisions
--   HasMemory l w      the loader accepts the image, and memory has each kept item as decided, the slots and the thunks
--   HasMemoryWithoutTables l w  the loader accepts the image without tables, and memory has each kept item as the file has it
use Rattle.std.specs.Prelude.{◌≡◌, ℕ, ◌+◌, ◌<◌, ◌≤◌, true, false, List, length, map, Some, Ok}
use Rattle.wild_records.specs.declared.program_header.ProgramHeader.{ProgramHeader}
use Rattle.wild_types.specs.declared.input.InputSection.{InputSection}
use Rattle.wild_types.specs.Item.{Item, item_of}
use Rattle.wild_types.specs.declared.layout.Layout.{Layout}
use Rattle.wild_types.specs.declared.section.Segment.{Segment}
use Rattle.wild_types.specs.HeaderOnly.{is_omitted}
use Rattle.wild_types.specs.Lookups.{is_read, is_frame, is_filled}
use Rattle.wild_table_formats.specs.Headers.{file_header, program_header}
use Rattle.wild_layout.specs.Image.{bytes}
use Rattle.wild_layout.specs.Loadable.{CarriesByte}
use Rattle.wild_geometry.specs.Slots.{HasSlots}
use Rattle.wild_geometry.specs.Thunks.{HasThunks}
use Rattle.wild_geometry.specs.Loaded.{IsDecided, HasItem, InFile, InMemory}
use Rattle.wild_loader.specs.declared.memory.Memory.{Memory}
use Rattle.wild_loader.specs.declared.world.World.{World}
use Rattle.wild_loader.specs.declared.world.Answer.{Answer}
use Rattle.wild_loader.specs.Headers.{machine_of}
use Rattle.wild_loader.specs.Load.{load}
use Rattle.wild_loader.specs.Memory.{byte_in, Holds}
use Rattle.wild_loader.specs.SegmentLaws.{loaded_memory}
use Rattle.wild_meaning.specs.Item.{IsKept}
use Rattle.wild_meaning.specs.Section.{HasFileBytes}
use Rattle.wild_meaning.specs.World.{IsPastFileBytes, HasCopy}
use Rattle.wild_meaning.specs.Unfilled.{IsFileByte, IsUnfilled}
use Rattle.wild_meaning.specs.LinkedImage.{IsSectionWithoutData, IsNotCopied, HoldsTexts, processor_of}
use Rattle.wild_geometry.specs.PlacedSections.{IsPlacedSection, file_place}

-- the section has bytes in the file, or in the part of frames
pub data HasPlace (l : Layout) (s : InputSection) : Type 0 where
  Filled : is_filled l s ≡ true → HasPlace l s
  Framed : is_frame s.slot ≡ true → HasPlace l s

-- each of its bytes is loaded at its address
pub record IsStored (l : Layout) (s : InputSection) : Type 0 where
  pub some : 1 ≤ s.size
  pub place : HasPlace l s
  pub carried : (k : ℕ) → k < s.size → (h : Segment) × CarriesByte l h (file_place l s + k) (s.address + k)

-- the program headers of the image, one for each segment
abbrev pub headers_of : Layout → List ProgramHeader
headers_of l = map (program_header l) l.segments

-- the loaded segments of the image, at the world's base
abbrev pub image_memory : Layout → World → Memory
image_memory l w = loaded_memory (machine_of (file_header l)) w.base (bytes l) (headers_of l)

-- each section that is written and whose relocations are read has decisions whose fields do not overlap
abbrev pub EachDecided : Layout → Type 0
EachDecided l = (s : InputSection) (k : IsPlacedSection l s) → is_read s ≡ true → is_omitted l s ≡ false → IsDecided l (item_of l k.owner s)

-- The loader accepts the image. Memory has each kept item as decided, with the base added to addresses that move; the slots,
-- stubs and thunks; copies of symbols; merged strings and the interpreter's path; and each byte of the file that nothing fills.
-- Otherwise it is zero after the file bytes of segments, and in sections without data.
pub record HasMemory (l : Layout) (w : World) : Type 0 where
  pub memory : Memory
  pub accepted : load w (bytes l) ≡ Ok memory
  pub machine : memory.machine ≡ processor_of l.machine
  pub items : (item : Item) → IsKept l item → HasItem l w memory item InMemory
  pub slots : HasSlots l w memory
  pub thunks : HasThunks l w memory
  pub zeros : (a : ℕ) → IsPastFileBytes l a → IsNotCopied l w a → byte_in memory (w.base + a) ≡ Some 0
  pub blanks : (s : InputSection) (k : ℕ) → IsSectionWithoutData l s → HasFileBytes l s.part → k < s.size → byte_in memory (w.base + (s.address + k)) ≡ Some 0
  pub copies : (i raw : ℕ) (x : Answer) → HasCopy l w i raw x → Holds memory (w.base + raw) x.bytes
  pub texts : HoldsTexts l w memory
  pub still : (a b : ℕ) → IsFileByte l (bytes l) a b → IsUnfilled l w a → byte_in memory (w.base + a) ≡ Some b

-- The loader accepts the image, which has no table for it to apply. Memory has each kept item, merged strings, the
-- interpreter's path and every byte of the file as the file has them. It is zero after the file bytes of segments, and in sections without data.
pub record HasMemoryWithoutTables (l : Layout) (w : World) : Type 0 where
  pub memory : Memory
  pub accepted : load w (bytes l) ≡ Ok memory
  pub machine : memory.machine ≡ processor_of l.machine
  pub items : (item : Item) → IsKept l item → HasItem l w memory item InFile
  pub zeros : (a : ℕ) → IsPastFileBytes l a → byte_in memory (w.base + a) ≡ Some 0
  pub blanks : (s : InputSection) (k : ℕ) → IsSectionWithoutData l s → HasFileBytes l s.part → k < s.size → byte_in memory (w.base + (s.address + k)) ≡ Some 0
  pub texts : HoldsTexts l w memory
  pub still : (a b : ℕ) → IsFileByte l (bytes l) a b → byte_in memory (w.base + a) ≡ Some b
