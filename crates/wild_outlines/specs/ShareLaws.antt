-- The shares of a layout after a change.
--   SharesByOutline   a change that keeps the numbers of dynamic relocations keeps all faults of shares
use Rattle.std.specs.Prelude.{◌≡◌, ℕ, length, Some}
use Rattle.wild_types.specs.declared.input.InputSection.{InputSection}
use Rattle.wild_types.specs.declared.layout.Layout.{Layout}
use Rattle.wild_types.specs.declared.part.Part.{Part}
use Rattle.wild_types.specs.declared.part.Role.{Role}
use Rattle.wild_change.specs.declared.change.Change.{Change}
use Rattle.wild_change.specs.Change.{found_section, changed_section, changed_layout}
use Rattle.wild_needs.specs.Needs.{needs, total_share}
use Rattle.wild_layout.specs.Faults.{part_errors}
use Rattle.wild_outlines.specs.MayChange.{KeepsCounts}

-- what such a change keeps: what each group needs of each part, what all groups need together, and the faults of shares
pub record KeepsShares (l m : Layout) : Type 0 where
  pub needs : (part group : ℕ) → needs m part group ≡ needs l part group
  pub total : (r : Role) → total_share m r ≡ total_share l r
  pub errors : (i : ℕ) (p : Part) → part_errors m i p ≡ part_errors l i p

-- the section keeps its length and the numbers of its entries in the tables of dynamic relocations
abbrev pub SharesByOutline : Type 0
SharesByOutline =
    (l : Layout) (c : Change) (s : InputSection) → found_section l c ≡ Some s → length c.bytes ≡ length s.bytes → KeepsCounts l s (changed_section c s) → KeepsShares l (changed_layout l c)
