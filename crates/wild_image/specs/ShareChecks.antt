-- Checks of shares, batch by batch.
--   HasCorrectGroups l b    the shares of the batch's groups are what these need
--   GivesCheck l bs i ok    if `ok`, those of batch i are
use Rattle.std.specs.Prelude.{◌≡◌, ℕ, ◌+◌, Bool, true, List, Some, slice_get}
use Rattle.wild_types.specs.declared.file.Group.{Group}
use Rattle.wild_types.specs.declared.layout.Layout.{Layout}
use Rattle.wild_image.specs.Steps.{HasCorrectShares}
use Rattle.wild_image.specs.declared.batch.Batch.{Batch}

-- the shares of the batch's groups are what these need
abbrev pub HasCorrectGroups : Layout → Batch → Type 0
HasCorrectGroups l b = (j : ℕ) (g : Group) → slice_get b.groups.now j ≡ Some g → HasCorrectShares l (b.first + j) g

-- if `ok`, the shares of the groups of batch i are what these need
abbrev pub GivesCheck : Layout → List Batch → ℕ → Bool → Type 0
GivesCheck l bs i ok = ok ≡ true → (b : Batch) → slice_get bs i ≡ Some b → HasCorrectGroups l b
