-- Places of thunks.
--   ThunkLies l t   a thunk's bytes are within the primary part and the image, and PT_LOAD segments load each to its address
--   IsOwned l b     a file writes the thunks of a block
use Rattle.std.specs.Prelude.{◌≡◌, ℕ, ◌+◌, ◌<◌, ◌≤◌, List, Contains}
use Rattle.wild_types.specs.declared.kind.Machine.TheVariants as machine
use Rattle.wild_types.specs.declared.part.Part.{Part}
use Rattle.wild_types.specs.declared.section.Segment.{Segment}
use Rattle.wild_types.specs.declared.file.File.{File}
use Rattle.wild_types.specs.declared.file.Group.{Group}
use Rattle.wild_types.specs.declared.layout.Thunk.{Thunk}
use Rattle.wild_types.specs.declared.layout.Layout.{Layout}
use Rattle.wild_types.specs.FileThunks.{thunk_size, thunks_of}
use Rattle.wild_types.specs.Lookups.{image_size}
use Rattle.wild_layout.specs.Image.{thunk_offset}
use Rattle.wild_layout.specs.SectionPlaces.{HasRoom}
use Rattle.wild_layout.specs.Loadable.{CarriesByte}

pub record ThunkLies (l : Layout) (t : Thunk) : Type 0 where
  pub stands : (p : Part) × HasRoom l l.primary_part t.address thunk_size p
  pub ends : thunk_offset l t + thunk_size ≤ image_size l
  pub carried : (k : ℕ) → k < thunk_size → (h : Segment) × CarriesByte l h (thunk_offset l t + k) (t.address + k)

-- a file of a group writes the thunks of the block; thunks exist on AArch64 only
pub record IsOwned (l : Layout) (b : List Thunk) : Type 0 where
  pub group : Group
  pub file : File
  pub listed : Contains l.groups group
  pub holds : Contains group.files file
  pub own : thunks_of l file ≡ b
  pub on : l.machine ≡ machine.AArch64
