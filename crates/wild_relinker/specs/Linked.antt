-- A layout without faults, with its image.
--   LinkedImage            a layout with the bytes, the warnings and the counts of an image
--   IsWritten l w          w are the bytes and the counts that `write` gives for the layout, and the number of its relocations
--   IsImage k              the layout has no faults, its image is written, and what is prepared is prepared for it
--   HoldsLinkedImage k w   the same, with the warnings
use Rattle.std.specs.Prelude.{◌≡◌, ℕ, List, []}
use Rattle.wild_types.specs.declared.warning.EntryWarning.{EntryWarning}
use Rattle.wild_types.specs.declared.layout.Layout.{Layout}
use Rattle.wild_plan_rules.specs.Places.{relocation_count}
use Rattle.wild_layout.specs.Faults.{errors}
use Rattle.wild_layout.specs.Image.{bytes, counts}
use Rattle.wild_layout.specs.Warnings.{warnings}
use Rattle.wild_image.specs.Prepared.{IsPrepared}
use Rattle.wild_relinker.specs.declared.linked.Image.{Image}
use Rattle.wild_relinker.specs.declared.linked.WrittenImage.{WrittenImage}

-- a layout with the bytes, the warnings and the counts of an image
pub record LinkedImage : Type 0 where
  pub layout : Layout
  pub out : List ℕ
  pub warnings : List EntryWarning
  pub counts : List ℕ

-- the bytes and the counts that `write` gives for the layout, and the number of its relocations
pub record IsWritten (l : Layout) (w : WrittenImage) : Type 0 where
  pub bytes : w.out.items ≡ bytes l
  pub counts : w.counts.items ≡ counts l
  pub relocations : w.relocations ≡ relocation_count l

-- the layout has no faults, its image is written, and what is prepared is prepared for it
pub record IsImage (k : Image) : Type 0 where
  pub faultless : errors k.layout ≡ []
  pub written : IsWritten k.layout k.written
  pub prepared : IsPrepared k.layout k.prepared

pub record HoldsLinkedImage (k : Image) (w : List EntryWarning) : Type 0 where
  pub image : IsImage k
  pub warnings : w ≡ warnings k.layout
