-- S and L on AArch64.
--   IsUndefinedWeak l i             symbol i is weak and undefined, and has no stub
--   own_place w item r       its address in a reference that subtracts a place from it
--   IsOneAddress l w m i a   a is the one address that represents symbol i
--   IsBranchedTo ..          a is the target of a branch, before its addend
--   RepresentsOnAArch64 ..       a represents symbol i in an expression
use Rattle.std.specs.Prelude.{◌≡◌, ℕ, ◌+◌, ◌%◌, ◌^◌, ◌⊎◌, true, false, if◌then◌else◌, List, [], ◌∷◌}
use Rattle.std.specs.Int.{w64, cast_unsigned}
use Rattle.wild_records.specs.Abi.Relocation.{r_aarch64_tstbr14, r_aarch64_condbr19, r_aarch64_jump26, r_aarch64_call26}
use Rattle.wild_reloc.specs.BarredTypes.{is_listed}
use Rattle.wild_reloc.specs.Formula.{Value, SymbolPart, Distance, PageDistance, StubDistance}
use Rattle.wild_types.specs.declared.input.InputRelocation.{InputRelocation}
use Rattle.wild_types.specs.declared.layout.Layout.{Layout}
use Rattle.wild_types.specs.Flags.{undefined_weak, plt_stub}
use Rattle.wild_loader.specs.declared.memory.Memory.{Memory}
use Rattle.wild_loader.specs.declared.world.World.{World}
use Rattle.wild_meaning.specs.Value.{HasFlag, HasValue}
use Rattle.wild_meaning.specs.Jump.{GoesTo}
use Rattle.wild_meaning.specs.Denotes.{IsAddressStub, IsAddressOf, Denotes}
use Rattle.wild_types.specs.Item.{Item}
use Rattle.wild_meaning.specs.Item.{place_at}

-- ---- undefined weak symbols (aaelf64, "Weak references", "Relocations for control-flow instructions")

-- The symbol is weak and undefined, and has no stub that leads to another module's definition (gABI, "Symbol Table": STB_WEAK).
pub record IsUndefinedWeak (l : Layout) (i : ℕ) : Type 0 where
  pub weak : HasFlag l i undefined_weak true
  pub stubless : HasFlag l i plt_stub false

-- the relocation types of branches
abbrev pub branch_types : List ℕ
branch_types = r_aarch64_tstbr14 ∷ r_aarch64_condbr19 ∷ r_aarch64_jump26 ∷ r_aarch64_call26 ∷ []

-- so a distance is A, and a branch goes to the instruction after it
abbrev pub own_place : World → Item → InputRelocation → ℕ
own_place w item r = (place_at w item r.offset + (if is_listed r.number branch_types then 4 else 0)) % 2 ^ 64

-- ---- other symbols

-- a is the one address that represents symbol i: its stub in this case, otherwise its value
abbrev pub IsOneAddress : Layout → World → Memory → ℕ → ℕ → Type 0
IsOneAddress l w m i a = ((p : ℕ) × IsAddressStub l i p × (a ≡ (w.base + p) % 2 ^ 64) × Denotes l w m i a) ⊎ (((p : ℕ) → IsAddressStub l i p → ⊥) × HasValue l w i a)

-- a is L in a branch: a + A is an address that represents the symbol, plus A, or a thunk that leads there (aaelf64, "Call and Jump
-- relocations")
pub record IsBranchedTo (l : Layout) (w : World) (m : Memory) (r : InputRelocation) (i a : ℕ) : Type 0 where
  pub symbol : ℕ
  pub denoted : Denotes l w m i symbol
  pub comes : GoesTo l m ((a + cast_unsigned w64 r.addend) % 2 ^ 64) ((symbol + cast_unsigned w64 r.addend) % 2 ^ 64)

-- On AArch64 several instructions each hold a part of one address, a branch may go through a thunk, and a conditional one to a stub
-- (aaelf64, "Relocation operations", "Call and Jump relocations").
abbrev pub RepresentsOnAArch64 : Value → Layout → World → Memory → InputRelocation → ℕ → ℕ → Type 0
RepresentsOnAArch64 SymbolPart l w m r i a = IsOneAddress l w m i a
RepresentsOnAArch64 PageDistance l w m r i a = IsOneAddress l w m i a
RepresentsOnAArch64 StubDistance l w m r i a = IsBranchedTo l w m r i a
RepresentsOnAArch64 Distance l w m r i a = IsAddressOf l w m i a ⊎ ((is_listed r.number branch_types ≡ true) × Denotes l w m i a)
RepresentsOnAArch64 other l w m r i a = IsAddressOf l w m i a
