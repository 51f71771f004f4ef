-- Properties that are computed once for a layout, or for some groups.
--   AreFactsOf l k            the fields of k hold of the layout: `needs_no_dynamic_tables`, `inner_groups_have_no_tables`, `only_first_group_has_tables`;
--                          and `frames` is the address of .eh_frame
--   GiveNothing l gs       the groups write nothing to any table
use Rattle.std.specs.Prelude.{◌≡◌, ℕ, true, List, Some, slice_get}
use Rattle.wild_types.specs.declared.file.Group.{Group}
use Rattle.wild_types.specs.declared.layout.Layout.{Layout}
use Rattle.wild_types.specs.declared.part.Part.{Part}
use Rattle.wild_types.specs.declared.part.Role.TheVariants as role
use Rattle.wild_types.specs.FilePlaces.{given}
use Rattle.wild_types.specs.Lists.{total}
use Rattle.wild_types.specs.Parts.{part_with}
use Rattle.wild_placement.specs.PlacedSections.{part_address}
use Rattle.wild_needs.specs.Needs.{has_no_dynamic_tables, inner_groups_need_no_tables}
use Rattle.wild_image.specs.Pieces.{written}
use Rattle.wild_image.specs.Steps.{OthersHaveNone}
use Rattle.wild_image.specs.declared.layout_facts.LayoutFacts.{LayoutFacts}

-- the fields hold of the layout; `needs_no_dynamic_tables` is exact, the other two may be false although the property holds
pub record AreFactsOf (l : Layout) (k : LayoutFacts) : Type 0 where
  pub needs_no_dynamic_tables : k.needs_no_dynamic_tables ≡ has_no_dynamic_tables l
  pub inner_groups_have_no_tables : k.inner_groups_have_no_tables ≡ true → inner_groups_need_no_tables l ≡ true
  pub only_first_group_has_tables : k.only_first_group_has_tables ≡ true → OthersHaveNone l
  pub frames : k.frames ≡ part_address (part_with role.EhFrame l.parts)

-- the groups write nothing to any table
abbrev pub GiveNothing : Layout → List Group → Type 0
GiveNothing l gs = (k : ℕ) (p : Part) → slice_get l.parts k ≡ Some p → written l p (total (given k) gs) ≡ 0
