-- The faults and the pieces of a group, and the padding, depend on the group and on the outline of the layout only.
--   GroupsByOutline    the faults and the pieces of any group
--   PaddingByOutline   the padding
use Rattle.std.specs.Prelude.{◌≡◌, ℕ}
use Rattle.wild_types.specs.declared.file.Group.{Group}
use Rattle.wild_types.specs.declared.layout.Layout.{Layout}
use Rattle.wild_change.specs.Outline.{outline}
use Rattle.wild_layout.specs.Faults.{group_errors}
use Rattle.wild_layout.specs.Image.{group_pieces, padding}

-- of a group with number i, which need not be one of the layout's
pub record GroupsByOutline (l : Layout) (i : ℕ) (g : Group) : Type 0 where
  pub errors : group_errors l i g ≡ group_errors (outline l) i g
  pub pieces : group_pieces l i g ≡ group_pieces (outline l) i g

abbrev pub PaddingByOutline : Type 0
PaddingByOutline = (l : Layout) → padding l ≡ padding (outline l)
