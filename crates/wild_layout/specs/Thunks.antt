-- Thunks: code that extends branches to targets out of their range ("ELF for the Arm 64-bit Architecture", "Call and Jump
-- relocations").
--   thunk_target l t   the address that a thunk branches to
--   thunk_bytes l t    its bytes
--   file_thunks l f    the bytes of the thunks that a file writes
--   thunk_fault l t    why it cannot be written
--   Ascend ts          thunks are sorted by symbol
--   thunk_of c ts      the thunk of a symbol among these
--   thunk_for l k i    the thunk of a block for branches to symbol i
use Rattle.std.specs.Prelude.{◌≡◌, ℕ, ◌==◌, Bool, true, ◌||◌, if◌then◌else◌, List, [], ◌∷◌, Option, Some, None, is_some, Result, Ok, Err}
use Rattle.std.specs.List.{flat_map}
use Rattle.wild_types.specs.declared.fault.Fault.{Fault}
use Rattle.wild_types.specs.declared.fault.Fault.TheVariants as faults
use Rattle.wild_types.specs.declared.file.File.{File}
use Rattle.wild_types.specs.declared.layout.Thunk.{Thunk}
use Rattle.wild_types.specs.declared.layout.Layout.{Layout}
use Rattle.wild_types.specs.FileThunks.{block_of, thunks_of}
use Rattle.wild_types.specs.Lookups.{canonical}
use Rattle.wild_plan_rules.specs.Thunks.{ascends}
use Rattle.wild_relax.specs.ThunkAArch64.{thunk_aarch64}
use Rattle.wild_layout.specs.SymbolValues.{raw_address}
use Rattle.wild_layout.specs.SlotValues.{resolution_of, stub_of}

abbrev pub stub_or : Option ℕ → Result ℕ Fault → Result ℕ Fault
stub_or (Some stub) address = Ok stub
stub_or None address = address

-- the PLT stub of its symbol, or without a stub its address
abbrev pub thunk_target : Layout → Thunk → Result ℕ Fault
thunk_target l t = stub_or (stub_of l t.symbol) (raw_address l (Some t.symbol))

abbrev pub target_or_zero : Result ℕ Fault → ℕ
target_or_zero (Ok target) = target
target_or_zero (Err f) = 0

-- the bytes of a thunk; target 0 is used if it has none
abbrev pub thunk_bytes : Layout → Thunk → List ℕ
thunk_bytes l t = (thunk_aarch64 t.address (target_or_zero (thunk_target l t))).bytes

-- the bytes of the thunks that a file writes
abbrev pub file_thunks : Layout → File → List ℕ
file_thunks l f = flat_map (thunk_bytes l) (thunks_of l f)

-- why code at an address cannot branch to a target
abbrev pub carry_fault : ℕ → Result ℕ Fault → Option Fault
carry_fault at (Err f) = Some f
carry_fault at (Ok target) = if (thunk_aarch64 at target).reaches then None else Some (faults.ThunkOutOfRange (thunk_aarch64 at target).distance)

-- its symbol has neither stub nor address, or the target is too far
abbrev pub thunk_fault : Layout → Thunk → Option Fault
thunk_fault l t = carry_fault t.address (thunk_target l t)

-- ---- branches

-- thunks are sorted by symbol, and no symbol has two
abbrev pub Ascend : List Thunk → Type 0
Ascend ts = ascends ts ≡ true

-- the thunk of symbol c
abbrev pub thunk_of : ℕ → List Thunk → Option Thunk
thunk_of c [] = None
thunk_of c (t ∷ ts) = if t.symbol == c then Some t else thunk_of c ts

-- references to symbol i use its definition's resolution: the symbol is its own definition, or the definition has a resolution. Other
-- symbols use their own place, for which there is no thunk
abbrev pub uses_definition : Layout → ℕ → Bool
uses_definition l i = canonical l i == i || is_some (resolution_of l i)

-- the thunk of its definition, in a block
abbrev pub thunk_for : Layout → ℕ → Option ℕ → Option Thunk
thunk_for l block None = None
thunk_for l block (Some i) = if uses_definition l i then thunk_of (canonical l i) (block_of l block) else None
