-- The image of a laid out layout is loaded in every legal world.
--   MemoryHasChanges     once its tables are applied, memory has each kept section as decided, the slots, copies and zeros
--   ImagesAreLoaded   the loader accepts the image, and memory has each kept section as decided, and the slots
--   DebugImagesAreLoaded   it accepts an image only for debuggers, and memory has each kept section as the file has it
use Rattle.std.specs.Prelude.{◌≡◌, []}
use Rattle.wild_types.specs.declared.layout.Layout.{Layout}
use Rattle.wild_types.specs.HeaderOnly.{KeepsAll}
use Rattle.wild_layout.specs.Numbers.{NumbersFit}
use Rattle.wild_layout.specs.Faults.{flat_map_from, group_errors}
use Rattle.wild_layout.specs.Geometry.{IsLaidOut}
use Rattle.wild_geometry.specs.Carried.{EachPartIsLoaded}
use Rattle.wild_loader.specs.declared.memory.Memory.{Memory}
use Rattle.wild_loader.specs.declared.world.World.{World}
use Rattle.wild_meaning.specs.World.{IsLoadable, IsLegal}
use Rattle.wild_loaded.specs.Memory.{EachDecided, HasMemory, HasMemoryWithoutTables}
use Rattle.wild_meaning.specs.Section.{IsForDebuggers}
use Rattle.wild_loaded.specs.WholeSlots.{HasWholeSlots}
use Rattle.wild_loaded.specs.LoadedMemory.{HasApplied, HasLoadedMemory}

-- The tables were applied to the loaded segments of an image without faults. Then each kept section is in memory with the base added to
-- its addresses and with its fields filled. So are the slots, stubs, thunks and copies, and the zeros past file bytes and in sections
-- without data.
abbrev pub MemoryHasChanges : Type 0
MemoryHasChanges = (l : Layout) (w : World) (m : Memory) → KeepsAll l → IsLoadable l.kind → NumbersFit l → IsLegal l w → IsLaidOut l → EachPartIsLoaded l → EachDecided l → HasWholeSlots l → flat_map_from (group_errors l) 0 l.groups ≡ []
    → HasApplied l w m → HasLoadedMemory l w m

-- so the image of an output can be loaded in every legal world, with or without a dynamic section
abbrev pub ImagesAreLoaded : Type 0
ImagesAreLoaded = (l : Layout) (w : World) → KeepsAll l → IsLoadable l.kind → NumbersFit l → IsLegal l w → IsLaidOut l → EachPartIsLoaded l → EachDecided l → HasWholeSlots l → flat_map_from (group_errors l) 0 l.groups ≡ [] → HasMemory l w

-- an image only for debuggers has no table, and the loader applies none
abbrev pub DebugImagesAreLoaded : Type 0
DebugImagesAreLoaded = (l : Layout) (w : World) → IsForDebuggers l → IsLoadable l.kind → NumbersFit l → IsLegal l w → IsLaidOut l → EachPartIsLoaded l → EachDecided l → HasMemoryWithoutTables l w
