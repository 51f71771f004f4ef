-- The effect of thunks in memory, whether or not a branch uses them, and the value that a branch to a thunk has (aaelf64, "Call
-- and Jump relocations").
--   JumpsToTarget l w m t       code at the thunk jumps to its target
--   EachThunkJumps ..   each thunk of the layout does so
--   ThunksJumpToTargets           the law
--   AllowsThunks info         branches of a row's type may use thunks
--   ThunksGive           the distance to the thunk is a value of the branch's expression
use Rattle.std.specs.Prelude.{◌≡◌, ℕ, ◌+◌, ◌%◌, ◌^◌, ◌≤◌, ◌⊎◌, true, false, List, Some, None, Ok, Contains}
use Rattle.wild_types.specs.declared.kind.Machine.TheVariants as machine
use Rattle.wild_types.specs.declared.input.InputRelocation.{InputRelocation}
use Rattle.wild_types.specs.Item.{Item}
use Rattle.wild_types.specs.FileThunks.{thunk_size}
use Rattle.wild_types.specs.HeaderOnly.{KeepsAll}
use Rattle.wild_types.specs.Lookups.{place_of}
use Rattle.wild_reloc.specs.Range.{contains}
use Rattle.wild_reloc.specs.Formula.{StubDistance}
use Rattle.wild_reloc.specs.declared.info.RelocationKind.TheVariants as kinds
use Rattle.wild_reloc.specs.declared.info.RelocationKindInfo.{RelocationKindInfo}
use Rattle.wild_types.specs.declared.layout.Thunk.{Thunk}
use Rattle.wild_types.specs.declared.layout.Layout.{Layout}
use Rattle.wild_layout.specs.Decide.{addend_bits}
use Rattle.wild_layout.specs.SymbolValues.{minus}
use Rattle.wild_layout.specs.Thunks.{thunk_target, thunk_for}
use Rattle.wild_layout.specs.Geometry.{IsLaidOut}
use Rattle.wild_geometry.specs.Thunks.{HasThunks}
use Rattle.wild_loader.specs.declared.memory.Memory.{Memory}
use Rattle.wild_loader.specs.declared.world.World.{World}
use Rattle.wild_loader.specs.declared.instruction.Operand.TheVariants.{Number}
use Rattle.wild_meaning.specs.Jump.{JumpsBy}
use Rattle.wild_meaning.specs.LinkedImage.{processor_of}
use Rattle.wild_meaning.specs.Formula.{Gives}
use Rattle.wild_references.specs.Terms.{MovesByPages, value_by_row, HasTerm, IsFollowed}
use Rattle.wild_layout.specs.Merged.{names_merged}

-- the thunk has a target, and the code at its loaded address, which does not wrap, jumps to the base plus the target, a number
pub record JumpsToTarget (l : Layout) (w : World) (m : Memory) (t : Thunk) : Type 0 where
  pub target : ℕ
  pub known : thunk_target l t ≡ Ok target
  pub ends : w.base + t.address + thunk_size ≤ 2 ^ 64
  pub code : JumpsBy l m (w.base + t.address) thunk_size (Number ((w.base + target) % 2 ^ 64)) ((w.base + target) % 2 ^ 64)

-- each thunk of the layout
abbrev pub EachThunkJumps : Layout → World → Memory → Type 0
EachThunkJumps l w m = (b : List Thunk) (t : Thunk) → Contains l.thunk_blocks b → Contains b t → JumpsToTarget l w m t

-- if memory has the thunks of a laid out output
abbrev pub ThunksJumpToTargets : Type 0
ThunksJumpToTargets = (l : Layout) (w : World) (m : Memory) → MovesByPages l.machine l w → m.machine ≡ processor_of l.machine → IsLaidOut l → HasThunks l w m → EachThunkJumps l w m

-- ---- branches

-- Branches of the row's type may use thunks: the row is the distance of S or L, and its range contains 0 and 4, the distances of
-- the branch itself and of the next instruction.
pub record AllowsThunks (info : RelocationKindInfo) : Type 0 where
  pub kind : (info.kind ≡ kinds.Relative) ⊎ (info.kind ≡ kinds.PltRelative)
  pub whole : info.mask ≡ None
  pub here : contains info.range 0 ≡ true
  pub next : contains info.range 4 ≡ true

-- If the row's value is out of range, the thunk of the symbol's definition in the item's block leads to the symbol's target. So a
-- branch with addend 0 reaches the target through the distance of the thunk, if all tables are written. A branch to the symbol
-- itself is not to merged strings.
abbrev pub ThunksGive : Type 0
ThunksGive = (info : RelocationKindInfo) → AllowsThunks info → (l : Layout) (w : World) (m : Memory) (s : Item) (r : InputRelocation) (x : ℕ) (t : Thunk) → l.machine ≡ machine.AArch64 → KeepsAll l → HasTerm l w m s r info x → EachThunkJumps l w m → (info.kind ≡ kinds.Relative → names_merged l r.symbol ≡ false) → IsFollowed l r (value_by_row info)
    → contains info.range x ≡ false → thunk_for l s.thunk_block r.symbol ≡ Some t → addend_bits r ≡ 0 → Gives StubDistance l w m s r (minus t.address (place_of s.address r))
