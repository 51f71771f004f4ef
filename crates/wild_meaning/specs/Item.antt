-- Items: the parts of the image whose references are checked.
--   IsLoadedSlot s   sections of that sort are loaded as placed
--   placed_item l f s an input section as placed in the output
--   IsKept l item    the item is one of the layout's: the bytes of an input section that is loaded, allocated, has data and is
--                    written
--   IsReference ..   a relocation of an item that refers to something
use Rattle.std.specs.Prelude.{◌≡◌, ◌≢◌, ℕ, ◌+◌, ◌-◌, ◌%◌, false, ⊤, if◌then◌else◌, List, length, map, Contains, Some, slice_get, slice_index}
use Rattle.std.specs.List.{range_with_len}
use Rattle.wild_records.specs.Abi.Relocation.{r_x86_64_none}
use Rattle.wild_records.specs.Abi.Section.{shf_alloc}
use Rattle.wild_types.specs.declared.input.Slot.{Slot}
use Rattle.wild_types.specs.declared.input.Slot.TheVariants as slot
use Rattle.wild_types.specs.declared.input.InputRelocation.{InputRelocation}
use Rattle.wild_types.specs.declared.input.InputSection.{InputSection}
use Rattle.wild_types.specs.Item.{Item, block_for}
use Rattle.wild_meaning.specs.Frames.{IsFrameInput, frames_item, frames_address}
use Rattle.wild_types.specs.declared.file.File.{File}
use Rattle.wild_types.specs.declared.file.Group.{Group}
use Rattle.wild_types.specs.declared.layout.Layout.{Layout}
use Rattle.wild_loader.specs.declared.world.World.{World}
use Rattle.wild_types.specs.declared.part.Part.{Part}
use Rattle.wild_meaning.specs.Section.{IsSet, IsHeaderOnly}

-- the loaded address of a byte of an item
abbrev pub place_at : World → Item → ℕ → ℕ
place_at w item offset = w.base + item.address + offset

-- a relocation other than R_X86_64_NONE and R_AARCH64_NONE, which are 0
pub record IsReference (item : Item) (r : InputRelocation) : Type 0 where
  pub listed : Contains item.relocations r
  pub refers : r.number ≢ r_x86_64_none

-- an input section of the layout
pub record IsInput (l : Layout) (s : InputSection) : Type 0 where
  pub group : Group
  pub grouped : Contains l.groups group
  pub file : File
  pub filed : Contains group.files file
  pub listed : Contains file.sections s

-- the sorts of input sections that are loaded as placed, in the order of the files or in a given order
abbrev pub IsLoadedSlot : Slot → Type 0
IsLoadedSlot slot.Loaded = ⊤
IsLoadedSlot slot.Sorted = ⊤
IsLoadedSlot other = ⊥

-- ---- reversed sections: their words of 8 bytes are written in reverse order

-- the input offset of the output byte at k
abbrev pub input_offset_of : ℕ → ℕ → ℕ
input_offset_of n k = n - 8 - (k - k % 8) + k % 8

abbrev pub reversed_bytes : List ℕ → List ℕ
reversed_bytes bs = map (λ k. slice_index bs (input_offset_of (length bs) k)) (range_with_len 0 (length bs))

-- a relocation in a section of n bytes of words, moved with its word
abbrev pub reversed_relocation : ℕ → InputRelocation → InputRelocation
reversed_relocation n r = record { offset = n - 8 - r.offset; number = r.number; symbol = r.symbol; addend = r.addend; malformed = r.malformed }

-- ---- items

-- an input section as placed in the output, with the block of thunks that its file uses for it
abbrev pub placed_item : Layout → File → InputSection → Item
placed_item l f s = record {
  address = s.address;
  flags = s.flags;
  bytes = if s.reversed then reversed_bytes s.bytes else s.bytes;
  relocations = if s.reversed then map (reversed_relocation s.size) s.relocations else s.relocations;
  thunk_block = block_for l f s;
}

-- an input section that is loaded, allocated, has data and is written
pub record IsKeptSection (l : Layout) (s : InputSection) : Type 0 where
  pub input : IsInput l s
  pub loaded : IsLoadedSlot s.slot
  pub room : IsSet s.flags shf_alloc
  pub has_data : s.nobits ≡ false
  pub written : (p : Part) → slice_get l.parts s.part ≡ Some p → IsHeaderOnly l p → ⊥

-- an item of the layout that is in memory, by its origin
pub data IsKept (l : Layout) (item : Item) : Type 0 where
  -- an input section
  OfSection : (s : InputSection) (k : IsKeptSection l s) → item ≡ placed_item l k.input.file s → IsKept l item
  -- the kept entries of a section of frames
  OfFrames : (s : InputSection) (k : IsFrameInput l s) → item ≡ frames_item l k.file s (frames_address l s k) → IsKept l item
