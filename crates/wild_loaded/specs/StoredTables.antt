-- Parts and slots in the memory of an image, before any entry is applied.
--   IsPartStored l w r p  memory has the table of a role at its part
--   IsWordStored l w a d  memory has a word of a slot as the file has it
--   IsStubStored l w ..   memory has a stub
--   FillsSlot p w e       the entry of a slot fills its words
--   FillsField p w z ..   an entry stores a number in a field of that size
--   Copies p w e ..       an entry copies bytes to an address
use Rattle.std.specs.Prelude.{◌≡◌, ℕ, ◌+◌, ◌^◌, ◌<◌, ◌≤◌, List, length, Some, Ok}
use Rattle.wild_words.specs.Words.{word}
use Rattle.wild_records.specs.declared.relocations.Rela.{Rela}
use Rattle.wild_types.specs.declared.part.Part.{Part}
use Rattle.wild_types.specs.declared.part.Role.{Role}
use Rattle.wild_types.specs.declared.part.Role.TheVariants as role
use Rattle.wild_reloc.specs.Field.{size_width}
use Rattle.wild_reloc.specs.declared.info.RelocationSize.{RelocationSize}
use Rattle.wild_reloc.specs.declared.dynamic.DynamicRelocationKind.{DynamicRelocationKind}
use Rattle.wild_reloc.specs.declared.dynamic.DynamicRelocationKind.TheVariants as entry_kinds
use Rattle.wild_slot.specs.declared.slot.SlotEntry.{SlotEntry}
use Rattle.wild_slot.specs.declared.slot.SlotWord.{SlotWord}
use Rattle.wild_types.specs.declared.layout.Layout.{Layout}
use Rattle.wild_slot.specs.SlotParts.{word_of}
use Rattle.wild_layout.specs.TablePlaces.{table_bytes}
use Rattle.wild_loader.specs.declared.kind.DynamicKind.TheVariants as kinds
use Rattle.wild_loader.specs.declared.change.Change.{Change}
use Rattle.wild_loader.specs.declared.change.Change.TheVariants as changes
use Rattle.wild_loader.specs.declared.memory.Machine.{Machine as Processor}
use Rattle.wild_loader.specs.declared.world.World.{World}
use Rattle.wild_loader.specs.Changes.{kind_of, change_of}
use Rattle.wild_loader.specs.Memory.{Holds}
use Rattle.wild_geometry.specs.EntryKinds.{loaded_kind}
use Rattle.wild_geometry.specs.Loaded.{MakesChange, entry_with, stored_bytes}
use Rattle.wild_slots.specs.SlotPlaces.{part_of_word, role_of_words, IsLocatedAt}
use Rattle.wild_loaded.specs.Memory.{image_memory}
use Rattle.wild_slot.specs.MachineStub.{stub_in}

-- memory has the bytes of the table at the part's addresses, which do not wrap
pub record IsPartStored (l : Layout) (w : World) (r : Role) (p : Part) : Type 0 where
  pub ends : 1 ≤ p.size → w.base + p.address + p.size ≤ 2 ^ 64
  pub held : Holds (image_memory l w) (w.base + p.address) (table_bytes l r)

-- memory has a word of a slot as the file has it, in the table of the word
pub record IsWordStored (l : Layout) (w : World) (at : ℕ) (d : SlotWord) : Type 0 where
  pub value : ℕ
  pub is : word_of (part_of_word d) l.options.relr at d ≡ Some value
  pub fits : value < 2 ^ 64
  pub stands : IsLocatedAt l (role_of_words (part_of_word d)) at (word 8 value)
  pub ends : w.base + at + 8 ≤ 2 ^ 64
  pub held : Holds (image_memory l w) (w.base + at) (word 8 value)

-- memory has the stub, which is in its table
pub record IsStubStored (l : Layout) (w : World) (at stub : ℕ) : Type 0 where
  pub stands : IsLocatedAt l role.PltGot stub (stub_in l at stub).bytes
  pub held : Holds (image_memory l w) (w.base + stub) (stub_in l at stub).bytes

-- the number of bytes that the entry of a slot fills: two words for a descriptor, otherwise one
abbrev pub filled_width : SlotEntry → ℕ
filled_width e = width_by e.kind
  where
    width_by : DynamicRelocationKind → ℕ
    width_by entry_kinds.TlsDesc = 16
    width_by other = 8

-- the change stores a number of 64 bits in a word, or notes the offset of a descriptor, which has two words
abbrev pub FillsWords : ℕ → Change → Type 0
FillsWords n (changes.Word v) = (n ≡ 8) × (v < 2 ^ 64)
FillsWords n (changes.Descriptor o) = n ≡ 16
FillsWords n other = ⊥

-- the same for the entry of a slot, with the change that the processor's loader makes for its kind
pub record FillsSlot (p : Processor) (w : World) (e : SlotEntry) : Type 0 where
  pub index : e.symbol < 2 ^ 32
  pub change : Change
  pub makes : change_of w (loaded_kind p e.kind) (entry_with 0 e.symbol e.addend) ≡ Ok change
  pub fills : FillsWords (filled_width e) change

-- an entry of that type, index and addend stores a number in a field of that size
pub record FillsField (p : Processor) (w : World) (z : RelocationSize) (number symbol addend : ℕ) : Type 0 where
  pub type_fits : number < 2 ^ 32
  pub index_fits : symbol < 2 ^ 32
  pub change : Change
  pub makes : MakesChange p w number symbol addend change
  pub width : length (stored_bytes change) ≡ size_width z

-- the entry copies these bytes to an address
pub record Copies (p : Processor) (w : World) (e : Rela) (raw : ℕ) (bytes : List ℕ) : Type 0 where
  pub place : e.offset ≡ raw
  pub known : kind_of p e.number ≡ Some kinds.Copy
  pub makes : change_of w kinds.Copy e ≡ Ok (changes.Fill bytes)
