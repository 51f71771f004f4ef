-- The order of versions (LSB, "Symbol Versioning").
--   ParentsStand ds         there is a version, and each parent comes before its child
--   HasVersionsInOrder l    this holds for those that the output defines, and the last library with versions is marked as such
use Rattle.std.specs.Prelude.{◌≡◌, ℕ, ◌<◌, ◌≤◌, List, length, Some, None, slice_get}
use Rattle.wild_types.specs.declared.part.Part.{Part}
use Rattle.wild_types.specs.declared.part.Role.TheVariants as role
use Rattle.wild_types.specs.declared.layout.VersionDefinition.{VersionDefinition}
use Rattle.wild_types.specs.declared.layout.Layout.{Layout}
use Rattle.wild_types.specs.Parts.{part_with}
use Rattle.wild_needs.specs.Versions.{need_count}
use Rattle.wild_plan_rules.specs.VersionTables.{mark_astray}

-- there is at least one, and each parent comes before its child
pub record ParentsStand (ds : List VersionDefinition) : Type 0 where
  pub some : 1 ≤ length ds
  pub parents : (k : ℕ) (d : VersionDefinition) (p : ℕ) → slice_get ds k ≡ Some d → d.parent ≡ Some p → p < k

-- if there is a part for the versions that the output defines, they are in this order; of the libraries with needed versions only the
-- last is marked
pub record HasVersionsInOrder (l : Layout) : Type 0 where
  pub definitions : (p : Part) → part_with role.GnuVersionD l.parts ≡ Some p → ParentsStand l.verdefs
  pub marks : mark_astray (need_count l) 0 l.groups ≡ None
