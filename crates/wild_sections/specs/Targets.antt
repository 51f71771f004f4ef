-- The table of symbol addresses for S + A - P of x86-64.
--   has_targets l         the output is one of x86-64
--   target_of l i         the address of symbol i, if S depends on the symbol only
--   HasTargets l ts       the table of these for all symbols; empty for other outputs
--   IsKnownTarget l i a   symbol i has address a in the table, and each field of a distance can hold its distance
--   IsOwnTarget l i a     symbol i has address a in the table, and is not interposable
use Rattle.std.specs.Prelude.{◌≡◌, ℕ, ◌<◌, ◌||◌, Bool, true, false, if◌then◌else◌, List, map, length, Option, Some, None}
use Rattle.std.specs.List.{range_with_len}
use Rattle.wild_types.specs.declared.kind.Machine.{Machine}
use Rattle.wild_types.specs.declared.kind.Machine.TheVariants as machine
use Rattle.wild_types.specs.declared.layout.Layout.{Layout}
use Rattle.wild_types.specs.Addresses.{raw_value}
use Rattle.wild_types.specs.Flags.{interposable}
use Rattle.wild_slot.specs.Treatment.{flags_at, is_barred}
use Rattle.wild_layout.specs.SlotValues.{symbol_is_ifunc}
use Rattle.wild_layout.specs.Merged.{names_merged}

abbrev pub is_x86_64 : Machine → Bool
is_x86_64 machine.X86_64 = true
is_x86_64 machine.AArch64 = false

abbrev pub has_targets : Layout → Bool
has_targets l = is_x86_64 l.machine

-- None for an IFUNC, and if the address may depend on the addend
abbrev pub target_of : Layout → ℕ → Option ℕ
target_of l i = if symbol_is_ifunc l i || names_merged l (Some i) then None else raw_value l i

pub record HasTargets (l : Layout) (targets : List (Option ℕ)) : Type 0 where
  pub all : targets ≡ map (target_of l) (range_with_len 0 (length targets))
  pub some : (i : ℕ) → i < length targets → has_targets l ≡ true

-- symbol i has that address in the table
pub record IsTarget (l : Layout) (i a : ℕ) : Type 0 where
  pub output : has_targets l ≡ true
  pub is : target_of l i ≡ Some a

-- and no other module defines it in place of this output, so that the fields of a position-independent output can hold its distance
pub record IsKnownTarget (l : Layout) (i a : ℕ) : Type 0 where
  pub target : IsTarget l i a
  pub here : (flags n : ℕ) → is_barred l flags n i ≡ false

-- and this output's definition is used
pub record IsOwnTarget (l : Layout) (i a : ℕ) : Type 0 where
  pub target : IsTarget l i a
  pub own : interposable (flags_at l i) ≡ false
