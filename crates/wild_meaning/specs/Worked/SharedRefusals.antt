-- Images of the worked shared object that are refused in its world.
--   SharedWorldIsLegal    the world is legal
--   WrongSlotsAreRefused  a slot of an address or an offset that holds another word
--   SlotsNeedTheirFlags   a slot of a sort whose flag the symbol lacks
--   WrongStubsAreRefused  a stub that jumps by another word, or to another address
--   ..                    each other law names one kind of wrong memory
--   SharedImageIsLinked   an image is linked there
use Rattle.std.specs.Prelude.{◌≡◌, ℕ, ◌-◌, ◌^◌, List, [], ◌∷◌, Some}
use Rattle.wild_types.specs.declared.input.InputRelocation.{InputRelocation}
use Rattle.wild_types.specs.Item.{Item}
use Rattle.wild_meaning.specs.Formula.{IsReferent}
use Rattle.wild_reloc.specs.Formula.{SymbolAddress, AddressSlot, ModulePair, ThreadOffset, Descriptor}
use Rattle.wild_words.specs.Words.{HasBytesAt}
use Rattle.wild_loader.specs.declared.memory.Memory.{Memory}
use Rattle.wild_loader.specs.Memory.{byte_in, number_in, Holds}
use Rattle.wild_meaning.specs.World.{IsLegal}
use Rattle.wild_meaning.specs.Slot.{HasWord, HasSlot}
use Rattle.wild_meaning.specs.LinkedImage.{IsLinked}
use Rattle.wild_meaning.specs.Worked.Builders.{IsRightImage, Refuses}
use Rattle.wild_meaning.specs.Worked.Shared.{shared_layout, shared_world}
use Rattle.wild_meaning.specs.Worked.SharedImage.{shared_image}
use Rattle.wild_meaning.specs.Worked.Refusals.{HasWrongNumber, NamesWrongWord, NamesWrongModule, NamesWrongDescriptor, HasWrongByte}

-- the world is legal: the output is its module 2; other symbols' modules are 3 and 4, at different distances
abbrev pub SharedWorldIsLegal : Type 0
SharedWorldIsLegal = IsLegal shared_layout shared_world

-- no image of the shared object is linked in its world if memory is wrong in that way
abbrev pub Refused : (Memory → Type 0) → Type 0
Refused Wrong = Refuses shared_layout shared_world Wrong

-- the thread-pointer offsets of its own thread-local data, and of those of module 4
abbrev pub own_offset : ℕ
own_offset = 2 ^ 64 - 0x58

abbrev pub other_offset : ℕ
other_offset = 2 ^ 64 - 0x1fe0

-- a field names the slot of another symbol, which has the same content
pub record NamesAnother (m : Memory) : Type 0 where
  pub field : number_in m 0x11000 8 ≡ Some 0x1008
  pub there : HasWord m 0x12008 0x700010

-- a field names another place, which holds the same word as the symbol's slot
pub record NamesElsewhere (m : Memory) : Type 0 where
  pub field : number_in m 0x11000 8 ≡ Some 0x1100
  pub there : HasWord m 0x12100 0x11100

-- A symbol's slot holds another word than its address in the world. An own symbol's address moves with the base; that of an
-- interposable symbol is another module's. No field names another symbol's slot.
pub record WrongSlotsAreRefused : Type 0 where
  pub own : Refused (NamesWrongWord 0x11000 8 0x1000 0x12000 0x11100)
  pub other : Refused (NamesWrongWord 0x11038 8 0xfd0 0x12008 0x700010)
  pub another : Refused NamesAnother
  pub elsewhere : Refused NamesElsewhere

-- A symbol has no slot of a sort whose flag it lacks: the symbol with a slot for its address has none for an offset or a pair, the
-- thread-local data have none for an address, and those of another module no descriptor.
pub record SlotsNeedTheirFlags : Type 0 where
  pub address : (p : ℕ) → HasSlot AddressSlot shared_layout 2 p → ⊥
  pub offset : (p : ℕ) → HasSlot ThreadOffset shared_layout 0 p → ⊥
  pub pair : (p : ℕ) → HasSlot ModulePair shared_layout 0 p → ⊥
  pub descriptor : (p : ℕ) → HasSlot Descriptor shared_layout 3 p → ⊥

-- a stub of the function that jumps to the address in another word, which has the same content
abbrev pub stub_by_another_word : List ℕ
stub_by_another_word = 0xf3 ∷ 0x0f ∷ 0x1e ∷ 0xfa ∷ 0xf2 ∷ 0xff ∷ 0x25 ∷ 0x15 ∷ 0 ∷ 0 ∷ 0 ∷ 0x0f ∷ 0x1f ∷ 0x44 ∷ 0 ∷ 0 ∷ []

pub record JumpsByAnotherWord (m : Memory) : Type 0 where
  pub stub : Holds m 0x120e0 stub_by_another_word
  pub there : HasWord m 0x12100 0x11088

-- A stub jumps by its symbol's own slot, even if no reference uses it. The slot has the symbol's value. The stub is not the function's
-- address, because the layout has another one for it.
pub record WrongStubsAreRefused : Type 0 where
  pub another : Refused JumpsByAnotherWord
  pub value : Refused (HasWrongNumber 0x120d8 8 0x11088)
  pub address : (m : Memory) (item : Item) (r : InputRelocation) → r.symbol ≡ Some 4 → IsReferent shared_layout.machine SymbolAddress shared_layout shared_world m item r 0x120e0 → ⊥

-- a word with an address: it moves with the base; for an interposable symbol it is another module's
pub record WrongAddressesAreRefused : Type 0 where
  pub moved : Refused (HasWrongNumber 0x11010 8 0x11104)
  pub replaced : Refused (HasWrongNumber 0x11008 8 0x700010)

-- a distance that only the library's own symbol can have
abbrev pub WrongOwnDistanceIsRefused : Type 0
WrongOwnDistanceIsRefused = Refused (HasWrongNumber 0x11060 8 0xb0)

-- thread-pointer offsets, in a field and in slots, which do not move with the base; and an offset in the output's own
-- thread-local data
pub record WrongOffsetsAreRefused : Type 0 where
  pub own : Refused (HasWrongNumber 0x11018 8 own_offset)
  pub own_slot : Refused (NamesWrongWord 0x11024 4 0xfec 0x12010 own_offset)
  pub other_slot : Refused (NamesWrongWord 0x1104c 4 0xfec 0x12038 other_offset)
  pub inside : Refused (HasWrongNumber 0x11040 8 8)

-- a pair with a wrong module: that of its own symbol, of another module's, and of its own thread-local data
pub record WrongModulesAreRefused : Type 0 where
  pub own : Refused (NamesWrongModule 0x11020 0xff8 0x12018 2 8)
  pub other : Refused (NamesWrongModule 0x11048 0xff8 0x12040 4 0x20)
  pub begin : Refused (NamesWrongModule 0x1102c 0x1024 0x12050 2 0)

-- a descriptor for which another offset, or none, was noted
pub record WrongDescriptorsAreRefused : Type 0 where
  pub another : Refused (NamesWrongDescriptor 0x11028 0x1000 0x12028 own_offset)
  pub none : Refused (λ m. m.descriptors ≡ [])

-- `mov rax, -0x58`, the offset itself, where a descriptor's address is required
abbrev pub offset_load : List ℕ
offset_load = 0x48 ∷ 0xc7 ∷ 0xc0 ∷ 0xa8 ∷ 0xff ∷ 0xff ∷ 0xff ∷ []

pub record HasOffsetLoad (m : Memory) : Type 0 where
  pub there : Holds m 0x11080 offset_load
  pub offset : ℕ
  pub noted : m.descriptors ≡ (0x12028, offset) ∷ []

-- code that receives the offset itself where it requires a descriptor: a library has descriptors
abbrev pub WrongCodeOfLibraryIsRefused : Type 0
WrongCodeOfLibraryIsRefused = Refused HasOffsetLoad

-- a size; for an interposable symbol it is another module's
abbrev pub WrongSizeIsRefused : Type 0
WrongSizeIsRefused = Refused (HasWrongNumber 0x11030 8 24)

-- a byte in no field
abbrev pub WrongByteIsRefused : Type 0
WrongByteIsRefused = Refused (HasWrongByte 0x11051 2)

-- a byte of the dynamic section that memory does not have as the file has it: the address of the table of entries
abbrev pub ChangedTableIsRefused : Type 0
ChangedTableIsRefused = (image : List ℕ) (b : ℕ) (h : IsLinked shared_layout shared_world image) → HasBytesAt image 0x2068 (b ∷ []) → (byte_in h.memory 0x12068 ≡ Some b → ⊥) → ⊥

-- an image is linked in the world, so the refusals are not vacuous
abbrev pub SharedImageIsLinked : Type 0
SharedImageIsLinked = IsRightImage shared_layout shared_world shared_image
