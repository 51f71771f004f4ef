-- The parts of a layout that segments load.
--   IsPartLoaded l p    segments load each byte of the part, if its section is allocated and has bytes in the file
--   EachPartIsLoaded l  this is so for each part, except in a relocatable object
--   PartsAreLoaded      this is so in a layout without faults
use Rattle.std.specs.Prelude.{◌≡◌, ℕ, ◌+◌, ◌<◌, true, false, [], All}
use Rattle.wild_types.specs.declared.part.Part.{Part}
use Rattle.wild_types.specs.declared.section.Segment.{Segment}
use Rattle.wild_types.specs.declared.layout.Layout.{Layout}
use Rattle.wild_types.specs.Kinds.{is_partial_link}
use Rattle.wild_types.specs.Lookups.{is_allocated_section, takes_file_bytes}
use Rattle.wild_layout.specs.Faults.{errors}
use Rattle.wild_layout.specs.Loadable.{CarriesByte}

-- segments load each byte of the part to its address, if its section is allocated and has bytes in the file
abbrev pub IsPartLoaded : Layout → Part → Type 0
IsPartLoaded l p = is_allocated_section l p.section ≡ true → takes_file_bytes l p.section ≡ true → (k : ℕ) → k < p.size → (g : Segment) × CarriesByte l g (p.offset + k) (p.address + k)

-- this is so for each part, except in a relocatable object
abbrev pub EachPartIsLoaded : Layout → Type 0
EachPartIsLoaded l = is_partial_link l.kind ≡ false → All (IsPartLoaded l) l.parts

-- a layout without faults has such parts
abbrev pub PartsAreLoaded : Type 0
PartsAreLoaded = (l : Layout) → errors l ≡ [] → EachPartIsLoaded l
