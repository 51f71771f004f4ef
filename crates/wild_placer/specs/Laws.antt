-- What placed memories have.
--   PlacementsAreSound   the memory of a layout in a legal world is linked
--   PlacedRunsAreSeparate  no two runs of it share an address
--   PlainLayoutsAreLoaded  the memory of a plain layout is that of its segments, with its relocation sections applied
use Rattle.std.specs.Prelude.{◌≡◌, true, [], Ok, None}
use Rattle.wild_types.specs.declared.layout.Layout.{Layout}
use Rattle.wild_types.specs.ResolvedFlags.{HaveTheirFlags}
use Rattle.wild_layout.specs.Faults.{errors}
use Rattle.wild_layout.specs.Image.{bytes}
use Rattle.wild_layout.specs.Numbers.{NumbersFit}
use Rattle.wild_loader.specs.declared.memory.Memory.{Memory}
use Rattle.wild_loader.specs.declared.world.World.{World}
use Rattle.wild_loader.specs.Load.{load}
use Rattle.wild_loader.specs.Runs.{least_shared}
use Rattle.wild_meaning.specs.World.{IsLoadable, IsLegal}
use Rattle.wild_meaning.specs.LinkedImage.{IsLinked}
use Rattle.wild_placer.specs.Plain.{load_plain, is_plain}
use Rattle.wild_placer.specs.Place.{layout_memory}

-- memory is as the output requires: each reference of a kept item holds, and every other byte is as it should be
pub record IsPlacedSoundly (l : Layout) (w : World) (m : Memory) : Type 0 where
  pub linked : IsLinked l w (bytes l)
  pub same : linked.memory ≡ m

-- the memory of an executable or shared object whose resolutions have their symbols' flags, in a legal world
abbrev pub PlacementsAreSound : Type 0
PlacementsAreSound = (l : Layout) (w : World) (m : Memory) → NumbersFit l → HaveTheirFlags l → IsLoadable l.kind → IsLegal l w → layout_memory l w ≡ Ok m → IsPlacedSoundly l w m

-- no two runs of a placed memory share an address, in any world
abbrev pub PlacedRunsAreSeparate : Type 0
PlacedRunsAreSeparate = (l : Layout) (w : World) (m : Memory) → layout_memory l w ≡ Ok m → least_shared m.runs ≡ None

-- the memory that the loader makes of the image of a plain layout is that of its segments, with its relocation sections applied, in any
-- world
abbrev pub PlainLayoutsAreLoaded : Type 0
PlainLayoutsAreLoaded = (l : Layout) (w : World) → NumbersFit l → errors l ≡ [] → is_plain l ≡ true → load w (bytes l) ≡ load_plain l w (bytes l)
