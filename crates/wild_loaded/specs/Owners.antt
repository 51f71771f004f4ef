-- Each byte of an image has one owner, or is padding.
use Rattle.std.specs.Prelude.{◌≡◌, ℕ, ◌+◌, ◌<◌, ◌≤◌, ◌⊎◌, length, All, Contains, slice_index}
use Rattle.wild_words.specs.Words.{HasBytesAt}
use Rattle.wild_words.specs.Overlay.{Piece, AreDisjoint}
use Rattle.wild_types.specs.declared.layout.Layout.{Layout}
use Rattle.wild_types.specs.Lookups.{image_size}
use Rattle.wild_layout.specs.Image.{bytes, pieces, padding}

-- no byte belongs to two pieces, each piece is in the image, and every other byte is padding
pub record HasOneOwnerEach (l : Layout) : Type 0 where
  pub size : length (bytes l) ≡ image_size l
  pub apart : AreDisjoint (image_size l) (pieces l)
  pub owned : (p : Piece) → Contains (pieces l) p → HasBytesAt (bytes l) p.at p.bytes
  pub padded : (k : ℕ) → All (λ p. (k < p.at) ⊎ (p.at + length p.bytes ≤ k)) (pieces l) → slice_index (bytes l) k ≡ slice_index (padding l) k
