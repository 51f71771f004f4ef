-- The changes of an image's tables.
--   TablesAreMade   over the loaded segments each place and each entry makes a known change, and no two share a byte
use Rattle.std.specs.Prelude.{◌≡◌, [], AllPairs}
use Rattle.wild_types.specs.declared.layout.Layout.{Layout}
use Rattle.wild_types.specs.HeaderOnly.{KeepsAll}
use Rattle.wild_layout.specs.Numbers.{NumbersFit}
use Rattle.wild_layout.specs.Faults.{flat_map_from, group_errors}
use Rattle.wild_layout.specs.Geometry.{IsLaidOut}
use Rattle.wild_loader.specs.declared.world.World.{World}
use Rattle.wild_loader.specs.Relocate.{runs_of_patches}
use Rattle.wild_loader.specs.SegmentLaws.{DoesNotOverlap}
use Rattle.wild_loader.specs.EntryLaws.{HasMade, patches_of}
use Rattle.wild_meaning.specs.World.{IsLoadable, IsLegal}
use Rattle.wild_loaded.specs.Memory.{image_memory, EachDecided}
use Rattle.wild_loaded.specs.WholeSlots.{HasWholeSlots}
use Rattle.wild_loaded.specs.Tables.{tables_of}
use Rattle.wild_loaded.specs.Words.{place_change, entry_change}

-- the changes of an image's tables over its loaded segments
pub record AreMade (l : Layout) (w : World) : Type 0 where
  pub made : HasMade w (image_memory l w) (tables_of l) (place_change w (image_memory l w)) (entry_change w (image_memory l w))
  pub apart : AllPairs DoesNotOverlap (runs_of_patches (patches_of (tables_of l) (place_change w (image_memory l w)) (entry_change w (image_memory l w))))

-- if no group has a fault, each change is known, and no two share a byte
abbrev pub TablesAreMade : Type 0
TablesAreMade = (l : Layout) (w : World) → KeepsAll l → IsLoadable l.kind → NumbersFit l → IsLegal l w → IsLaidOut l → EachDecided l → HasWholeSlots l → flat_map_from (group_errors l) 0 l.groups ≡ [] → AreMade l w
