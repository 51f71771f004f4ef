-- The address at which the next frames of a group begin.
--   address_after_last at fs   the address after the frames at an address, if there are any
use Rattle.std.specs.Prelude.{ℕ, Option, Some, None}
use Rattle.wild_placement.specs.declared.frames.FileFrames.{FileFrames}
use Rattle.wild_placement.specs.FrameInputs.{kept_size}
use Rattle.wild_placement.specs.PlacedSections.{address_after}

-- the address after the frames at an address, if there are any
abbrev pub address_after_last : ℕ → Option FileFrames → ℕ
address_after_last at None = at
address_after_last at (Some fs) = address_after at (kept_size fs.layout.now fs.file.now fs.section.now)
