-- A group's RELR block of slots has no gap, so its packed words name exactly its places (gABI, "Relative Relocation Table").
--   IsWhole b ps        the places are the slots of the block
--   BlocksAreWhole      the law
use Rattle.std.specs.Prelude.{◌≡◌, ◌≢◌, ℕ, ◌%◌, ◌^◌, ◌≤◌, List, [], length, None, Contains}
use Rattle.wild_relr.specs.RunWords.{slots}
use Rattle.wild_types.specs.declared.part.Role.TheVariants as role
use Rattle.wild_types.specs.declared.file.Group.{Group}
use Rattle.wild_types.specs.declared.layout.Layout.{Layout}
use Rattle.wild_needs.specs.declared.slot_shares.RelrGot.{RelrGot}
use Rattle.wild_types.specs.Parts.{part_with}
use Rattle.wild_needs.specs.SlotShares.{group_relr_got, block_of}
use Rattle.wild_layout.specs.TablePlaces.{table_bytes}
use Rattle.wild_layout.specs.SlotOrder.{HasSlotsInOrder}
use Rattle.wild_slots.specs.Order.{end_of}

-- the places are the slots of the block, from its base on, which is even and, if there is a slot, not 0
pub record IsWhole (b : RelrGot) (ps : List ℕ) : Type 0 where
  pub places : ps ≡ slots b.base b.count
  pub even : b.base % 2 ≡ 0
  pub based : 1 ≤ length ps → b.base ≢ 0

-- the block of each group, if addresses are numbers of 64 bits, and each table has a part
abbrev pub BlocksAreWhole : Type 0
BlocksAreWhole = (l : Layout) → HasSlotsInOrder l → end_of l role.GotRelr ≤ 2 ^ 64 → (part_with role.GotRelr l.parts ≡ None → table_bytes l role.GotRelr ≡ [])
    → (g : Group) → Contains l.groups g → IsWhole (block_of (group_relr_got l g)) (group_relr_got l g)
