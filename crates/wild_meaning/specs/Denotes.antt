-- Addresses that represent a symbol in memory: its value, or a stub that leads to it. S is a stub only if the output uses that as the
-- symbol's address; L may be any stub.
--   HasStub l i p         the layout has a stub for symbol i at p
--   IsStub l w m i a      a is the loaded address of symbol i's stub, which jumps by the symbol's first slot
--   IsAddressStub l i p   the output uses the stub at p as symbol i's address
--   IsAddressOf l w m i a   a is S
--   Denotes l w m i a     a is L
use Rattle.std.specs.Prelude.{◌≡◌, ℕ, ◌+◌, ◌%◌, ◌^◌, ◌⊎◌, true, false, Some}
use Rattle.wild_types.specs.Flags.{ifunc, absolute}
use Rattle.wild_types.specs.declared.symbol.Resolution.{Resolution}
use Rattle.wild_types.specs.declared.symbol.Symbol.{Symbol}
use Rattle.wild_types.specs.declared.layout.Layout.{Layout}
use Rattle.wild_loader.specs.declared.memory.Memory.{Memory}
use Rattle.wild_loader.specs.declared.world.World.{World}
use Rattle.wild_loader.specs.declared.instruction.Operand.TheVariants.{Word}
use Rattle.wild_loader.specs.Memory.{number_in}
use Rattle.wild_meaning.specs.Jump.{JumpsBy}
use Rattle.wild_meaning.specs.Value.{IsSymbol, IsDefinedBy, HasRaw, HasFlag, HasValue}

-- p is the address in the layout of the stub of symbol i's definition
pub record HasStub (l : Layout) (i p : ℕ) : Type 0 where
  pub definition : ℕ
  pub defined : IsDefinedBy l i definition
  pub symbol : Symbol
  pub listed : IsSymbol l definition symbol
  pub resolution : Resolution
  pub decided : symbol.resolution ≡ Some resolution
  pub stub : resolution.plt_address ≡ Some p

-- the bytes of a stub (x86-64 psABI, "Procedure Linkage Table"; aaelf64, "Program Linkage Table")
abbrev pub stub_size : ℕ
stub_size = 16

-- a is the loaded address of symbol i's stub: code that jumps to the address in the symbol's first slot, where the symbol's value is
pub record IsStub (l : Layout) (w : World) (m : Memory) (i a : ℕ) : Type 0 where
  pub stub : ℕ
  pub given : HasStub l i stub
  pub moves : a ≡ (w.base + stub) % 2 ^ 64
  pub value : ℕ
  pub is : HasValue l w i value
  pub slot : ℕ
  pub first : given.resolution.got_address ≡ Some slot
  pub word : number_in m (w.base + slot) 8 ≡ Some value
  pub code : JumpsBy l m a stub_size (Word ((w.base + slot) % 2 ^ 64)) value

-- The output uses the stub at p as symbol i's address: the symbol is an IFUNC, or the layout places it at its stub; it moves with
-- the base (x86-64 psABI, "Function Addresses").
pub record IsAddressStub (l : Layout) (i p : ℕ) : Type 0 where
  pub stub : HasStub l i p
  pub stands : HasFlag l i ifunc true ⊎ HasRaw l i p
  pub moves : HasFlag l i absolute false

-- a is S for symbol i: its value, or its stub in this case
abbrev pub IsAddressOf : Layout → World → Memory → ℕ → ℕ → Type 0
IsAddressOf l w m i a = HasValue l w i a ⊎ ((p : ℕ) × IsAddressStub l i p × (a ≡ (w.base + p) % 2 ^ 64) × IsStub l w m i a)

-- a is L for symbol i: its value, or its stub (x86-64 psABI, "Procedure Linkage Table")
abbrev pub Denotes : Layout → World → Memory → ℕ → ℕ → Type 0
Denotes l w m i a = HasValue l w i a ⊎ IsStub l w m i a
