-- The bytes of an image that have an owner.
--   IsPadded l n base      n bytes, of which those without an owner are the first of the padding's
--   OwnedBytesAreWritten   the pieces cover each byte with an owner, so the image is the same whatever is there before
use Rattle.std.specs.Prelude.{◌≡◌, ℕ, ◌<◌, false, List, [], length, slice_index, Ok}
use Rattle.wild_words.specs.Overlay.{overlay}
use Rattle.wild_types.specs.declared.layout.Layout.{Layout}
use Rattle.wild_types.specs.Lookups.{image_size}
use Rattle.wild_plan_rules.specs.WellFormed.{first_clause}
use Rattle.wild_layout.specs.Faults.{flat_map_from, part_errors}
use Rattle.wild_layout.specs.Image.{is_owned, pieces, padding, bytes}

-- n bytes, of which those without an owner are as in the padding
pub record IsPadded (l : Layout) (n : ℕ) (base : List ℕ) : Type 0 where
  pub long : length base ≡ n
  pub free : (k : ℕ) → k < n → is_owned l k ≡ false → slice_index base k ≡ slice_index (padding l) k

-- if the clauses of a layout hold and its shares are correct, its pieces cover each byte that has an owner: written over such bytes they
-- give the image
abbrev pub OwnedBytesAreWritten : Type 0
OwnedBytesAreWritten = (l : Layout) → first_clause l ≡ Ok tt → flat_map_from (part_errors l) 0 l.parts ≡ [] → (base : List ℕ) → IsPadded l (image_size l) base → overlay (pieces l) base ≡ bytes l
