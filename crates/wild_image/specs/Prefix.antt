-- Bytes written over the first bytes of an image, which may end within them.
--   place_in_prefix at part old   old with part written over it, from offset at on, as far as old reaches
--   overlay_prefix pieces old     old with the pieces written over it, one after another, as far as old reaches
use Rattle.std.specs.Prelude.{ℕ, ◌-◌, List, [], ◌∷◌, length, take}
use Rattle.wild_words.specs.Words.{place}
use Rattle.wild_words.specs.Overlay.{Piece}

-- old with part written over it, from offset at on, as far as old reaches
unfoldable pub place_in_prefix : ℕ → List ℕ → List ℕ → List ℕ
place_in_prefix at part old = place at (take (length old - at) part) old

-- old with the pieces written over it, one after another, as far as old reaches
abbrev pub overlay_prefix : List Piece → List ℕ → List ℕ
overlay_prefix [] old = old
overlay_prefix (p ∷ ps) old = overlay_prefix ps (place_in_prefix p.at p.bytes old)
