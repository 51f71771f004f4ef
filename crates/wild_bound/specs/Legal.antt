-- The worlds of images that are bound to each other are legal, so each of the images is linked.
--   BoundWorldsAreLegal    each world is legal for the layout of its image
--   BoundImagesAreLinked   each image is linked in its world, with the memory that it was loaded to
use Rattle.std.specs.Prelude.{◌≡◌, ℕ, ◌≤◌, List, length, Some, Ok, slice_get}
use Rattle.wild_types.specs.declared.layout.Layout.{Layout}
use Rattle.wild_layout.specs.Image.{bytes}
use Rattle.wild_loader.specs.declared.world.World.{World}
use Rattle.wild_meaning.specs.LinkedImage.{IsLinked}
use Rattle.wild_meaning.specs.World.{IsLegal}
use Rattle.wild_space.specs.declared.image.NamedImage.{NamedImage}
use Rattle.wild_space.specs.declared.space.Bound.{Bound}
use Rattle.wild_space.specs.Bound.{bound}
use Rattle.wild_bound.specs.Premises.{HasLayout}

-- the world of an image of the space is legal for the layout of that image
abbrev pub BoundWorldsAreLegal : Type 0
BoundWorldsAreLegal = (xs : List NamedImage) (rs : List (ℕ × ℕ)) (b : Bound) (n : ℕ) (l : Layout) → 1 ≤ length xs → bound xs rs ≡ Ok b → (h : HasLayout xs rs b n l) → IsLegal l h.world

-- the image of the layout is linked in the world, with the memory of place n
pub record IsLinkedAt (b : Bound) (n : ℕ) (l : Layout) (w : World) : Type 0 where
  pub linked : IsLinked l w (bytes l)
  pub memory : slice_get b.memories n ≡ Some linked.memory

-- each image of the space is linked in its world, with its memory
abbrev pub BoundImagesAreLinked : Type 0
BoundImagesAreLinked = (xs : List NamedImage) (rs : List (ℕ × ℕ)) (b : Bound) (n : ℕ) (l : Layout) → 1 ≤ length xs → bound xs rs ≡ Ok b → (h : HasLayout xs rs b n l) → IsLinkedAt b n l h.world
