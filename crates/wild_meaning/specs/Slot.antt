-- The content and place of GOT slots (x86-64 psABI, "Global Offset Table (GOT)"; thread-local slots: "ELF Handling For
-- Thread-Local Storage", "TLS Access Models").
--   HasWord m g x         the word at an address is x
--   IsPair w m g t        the module and the offset in the two words at an address represent the thread-pointer offset t
--   IsInAddressSlot ..    a slot for symbol i's address may have a in it
--   HoldsSlot sort ..     memory at an address holds what a slot of that sort holds for symbol i
--   has_slot_of sort f    a symbol with these flags has a slot of that sort
--   offset_from_first sort f   the distance from the first slot of a symbol with these flags to its slot of that sort
--   HasSlot sort l i p    the layout has the slot of that sort of symbol i at p
--   IsSlot sort ..        g is the loaded address of that slot of a reference's symbol, and its content is right
use Rattle.std.specs.Prelude.{◌≡◌, ℕ, ◌+◌, ◌%◌, ◌^◌, ◌⊎◌, Bool, true, false, ◌||◌, if◌then◌else◌, Option, Some, None, Ok}
use Rattle.wild_reloc.specs.Formula.{Slot, AddressSlot, ModulePair, OwnModulePair, ThreadOffset, Descriptor}
use Rattle.wild_types.specs.declared.symbol.ValueFlags.{ValueFlags}
use Rattle.wild_types.specs.declared.symbol.Resolution.{Resolution}
use Rattle.wild_types.specs.declared.symbol.Symbol.{Symbol}
use Rattle.wild_types.specs.declared.layout.Layout.{Layout}
use Rattle.wild_types.specs.Flags.{has_flag, got_slot, got_tls_offset, got_tls_module, got_tls_descriptor, ifunc_got_for_address, canonical_plt_got_for_address}
use Rattle.wild_loader.specs.declared.memory.Memory.{Memory}
use Rattle.wild_loader.specs.declared.world.World.{World}
use Rattle.wild_loader.specs.Memory.{number_in}
use Rattle.wild_loader.specs.Changes.{first_value, distance_of}
use Rattle.wild_meaning.specs.Value.{IsSymbol, IsDefinedBy, HasFlag}
use Rattle.wild_meaning.specs.Denotes.{IsStub, IsAddressOf}
use Rattle.wild_meaning.specs.Thread.{HasThreadOffset, IsOffsetBase}

-- the word at an address
abbrev pub HasWord : Memory → ℕ → ℕ → Type 0
HasWord m g x = number_in m g 8 ≡ Some x

-- a module, followed by an offset in that module's thread-local data; together they represent the thread-pointer offset t
pub record IsPair (w : World) (m : Memory) (g t : ℕ) : Type 0 where
  pub owner : ℕ
  pub first : HasWord m g owner
  pub offset : ℕ
  pub second : HasWord m (g + 8) offset
  pub distance : ℕ
  pub known : distance_of w owner ≡ Ok distance
  pub sum : t ≡ (distance + offset) % 2 ^ 64

-- the pair of the output's own module represents the base of its offsets
pub record IsOwnPair (l : Layout) (w : World) (m : Memory) (g : ℕ) : Type 0 where
  pub begin : ℕ
  pub counted : IsOffsetBase l.machine l.kind w begin
  pub pair : IsPair w m g begin

-- A slot for symbol i's address has S in it. A second slot that the layout has for the stub's address has that.
abbrev pub IsInAddressSlot : Layout → World → Memory → ℕ → ℕ → Type 0
IsInAddressSlot l w m i a = IsAddressOf l w m i a ⊎ (HasFlag l i ifunc_got_for_address true × IsStub l w m i a)

-- A slot holds symbol i's address, or its thread-pointer offset. A pair, or the descriptor that the loader
-- noted, represents that offset.
abbrev pub HoldsSlot : Slot → Layout → World → Memory → ℕ → ℕ → Type 0
HoldsSlot AddressSlot l w m i g = (a : ℕ) × HasWord m g a × IsInAddressSlot l w m i a
HoldsSlot ThreadOffset l w m i g = (t : ℕ) × HasWord m g t × HasThreadOffset l w i t
HoldsSlot ModulePair l w m i g = (t : ℕ) × IsPair w m g t × HasThreadOffset l w i t
HoldsSlot OwnModulePair l w m i g = IsOwnPair l w m g
HoldsSlot Descriptor l w m i g = (t : ℕ) × (first_value m.descriptors g ≡ Some t) × HasThreadOffset l w i t

-- ---- places of slots

-- A symbol with these flags has a slot of that sort. No symbol has the pair of the output's own module.
abbrev pub has_slot_of : Slot → ValueFlags → Bool
has_slot_of AddressSlot f = has_flag f got_slot
has_slot_of ThreadOffset f = has_flag f got_tls_offset
has_slot_of ModulePair f = has_flag f got_tls_module
has_slot_of Descriptor f = has_flag f got_tls_descriptor
has_slot_of OwnModulePair f = false

-- The distance from a symbol's first slot to the one of that sort. The offset is first, then the pair, then the descriptor. If
-- there are two words for an address, the first is the stub's, and references use the second.
abbrev pub offset_from_first : Slot → ValueFlags → ℕ
offset_from_first AddressSlot f = if has_flag f ifunc_got_for_address || has_flag f canonical_plt_got_for_address then 8 else 0
offset_from_first ModulePair f = if has_flag f got_tls_offset then 8 else 0
offset_from_first Descriptor f = (if has_flag f got_tls_offset then 8 else 0) + (if has_flag f got_tls_module then 16 else 0)
offset_from_first other f = 0

-- p is the address in the layout of the slot of that sort of symbol i's definition
pub record HasSlotAddress (sort : Slot) (l : Layout) (i p : ℕ) : Type 0 where
  pub definition : ℕ
  pub defined : IsDefinedBy l i definition
  pub symbol : Symbol
  pub listed : IsSymbol l definition symbol
  pub flagged : has_slot_of sort symbol.flags ≡ true
  pub resolution : Resolution
  pub decided : symbol.resolution ≡ Some resolution
  pub first : ℕ
  pub given : resolution.got_address ≡ Some first
  pub place : p ≡ first + offset_from_first sort symbol.flags

-- all symbols share one pair of the output's own module
abbrev pub HasSlot : Slot → Layout → ℕ → ℕ → Type 0
HasSlot OwnModulePair l i p = l.tlsld ≡ Some p
HasSlot sort l i p = HasSlotAddress sort l i p

-- g is the loaded address of symbol i's only slot of that sort, and memory holds there what such a slot holds
pub record IsSlotOf (sort : Slot) (l : Layout) (w : World) (m : Memory) (i g : ℕ) : Type 0 where
  pub slot : ℕ
  pub given : HasSlot sort l i slot
  pub moves : g ≡ (w.base + slot) % 2 ^ 64
  pub holds : HoldsSlot sort l w m i g

-- g is G, for the symbol of a reference; there is none without a symbol
abbrev pub IsSlot : Slot → Layout → World → Memory → Option ℕ → ℕ → Type 0
IsSlot sort l w m None g = ⊥
IsSlot sort l w m (Some i) g = IsSlotOf sort l w m i g
