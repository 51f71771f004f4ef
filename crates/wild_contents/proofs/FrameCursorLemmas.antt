-- The address at which the next frames of a group begin.
use Rattle.std.proofs.Common.{◌≡◌, ℕ, ◌+◌, ◌%◌, ◌^◌, ◌<◌, false, Option, Some, None, refl, sym, ◌∙◌, arith}
use Rattle.wild_types.specs.declared.input.InputSection.{InputSection}
use Rattle.wild_types.specs.declared.file.File.{File}
use Rattle.wild_types.specs.declared.layout.Layout.{Layout}
use Rattle.wild_types.specs.Lookups.{is_frame}
use Rattle.wild_placement.specs.declared.frames.FileFrames.{FileFrames}
use Rattle.wild_placement.specs.FrameInputs.{kept_size}
use Rattle.wild_placement.specs.PlacedSections.{address_after}
use Rattle.wild_contents.specs.FrameCursor.{address_after_last}

-- it fits 64 bits
pub address_fits : (at : ℕ) (last : Option FileFrames) → at < 2 ^ 64 → address_after_last at last < 2 ^ 64
address_fits at None h = h
address_fits at (Some fs) h = omega arith

none_kept : (l : Layout) (f : File) (s : InputSection) → is_frame s.slot ≡ false → kept_size l f s ≡ 0
unfolding kept_size
none_kept l f s h = rw h refl

-- a section without frames leaves it
pub others_take_no_room : (at : ℕ) (l : Layout) (f : File) (s : InputSection) → at < 2 ^ 64 → is_frame s.slot ≡ false → at ≡ address_after at (kept_size l f s)
others_take_no_room at l f s fits h = let k = none_kept l f s h in omega (arith, fits, k)
