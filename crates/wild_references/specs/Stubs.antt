-- The effect of stubs in memory, whether or not a reference uses them (x86-64 psABI, "Procedure Linkage Table"; "ELF for the Arm
-- 64-bit Architecture", "Program Linkage Table").
--   JumpsThroughSlot l w m r p    code at the stub p jumps to the address in the first slot of a resolution
--   EachStubJumps l w m   each stub of the layout does so
--   EachStubIsOfSymbol ..         each stub represents its symbol
--   StubsJumpToSlots, StubsAreOfSymbols   the laws
use Rattle.std.specs.Prelude.{◌≡◌, ℕ, ◌+◌, ◌%◌, ◌^◌, Some}
use Rattle.wild_types.specs.declared.symbol.Resolution.{Resolution}
use Rattle.wild_types.specs.declared.symbol.Symbol.{Symbol}
use Rattle.wild_types.specs.declared.layout.Layout.{Layout}
use Rattle.wild_types.specs.ResolvedFlags.{HaveTheirFlags}
use Rattle.wild_layout.specs.SlotOrder.{EachAgrees}
use Rattle.wild_geometry.specs.Slots.{HasSlots}
use Rattle.wild_loader.specs.declared.memory.Memory.{Memory}
use Rattle.wild_loader.specs.declared.world.World.{World}
use Rattle.wild_meaning.specs.Value.{IsSymbol}
use Rattle.wild_meaning.specs.Slot.{HasWord}
use Rattle.wild_loader.specs.declared.instruction.Operand.TheVariants.{Word}
use Rattle.wild_meaning.specs.World.{IsLoadable, IsLegal}
use Rattle.wild_meaning.specs.Jump.{JumpsBy}
use Rattle.wild_meaning.specs.Denotes.{stub_size, HasStub, IsStub}
use Rattle.wild_layout.specs.Geometry.{IsLaidOut}
use Rattle.wild_layout.specs.Numbers.{NumbersFit}
use Rattle.wild_types.specs.HeaderOnly.{KeepsAll}
use Rattle.wild_meaning.specs.LinkedImage.{processor_of}
use Rattle.wild_references.specs.Terms.{MovesByPages}

-- the resolution has a slot, and the code at the loaded address of the stub p jumps directly to the address in that slot
pub record JumpsThroughSlot (l : Layout) (w : World) (m : Memory) (r : Resolution) (p : ℕ) : Type 0 where
  pub slot : ℕ
  pub given : r.got_address ≡ Some slot
  pub target : ℕ
  pub word : HasWord m (w.base + slot) target
  pub code : JumpsBy l m (w.base + p) stub_size (Word ((w.base + slot) % 2 ^ 64)) target

-- each stub of the layout, whatever its symbol
abbrev pub EachStubJumps : Layout → World → Memory → Type 0
EachStubJumps l w m = (i p : ℕ) (s : Symbol) (r : Resolution) → IsSymbol l i s → s.resolution ≡ Some r → r.plt_address ≡ Some p → JumpsThroughSlot l w m r p

-- if flags and slots agree, and memory has the slots and stubs of symbols
abbrev pub StubsJumpToSlots : Type 0
StubsJumpToSlots = (l : Layout) (w : World) (m : Memory) → MovesByPages l.machine l w → m.machine ≡ processor_of l.machine → HaveTheirFlags l → EachAgrees l → HasSlots l w m → EachStubJumps l w m

-- each stub of the layout represents its symbol
abbrev pub EachStubIsOfSymbol : Layout → World → Memory → Type 0
EachStubIsOfSymbol l w m = (i p : ℕ) → HasStub l i p → IsStub l w m i ((w.base + p) % 2 ^ 64)

-- in a legal world, if the layout is laid out, all its tables are written, and memory has the slots and stubs of symbols
abbrev pub StubsAreOfSymbols : Type 0
StubsAreOfSymbols = (l : Layout) (w : World) (m : Memory) → KeepsAll l → MovesByPages l.machine l w → IsLoadable l.kind → HaveTheirFlags l → NumbersFit l → IsLegal l w → IsLaidOut l → m.machine ≡ processor_of l.machine → HasSlots l w m → EachStubIsOfSymbol l w m
