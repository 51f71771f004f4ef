-- Bytes of an image without an owner are filled: either section by section, or those that are not marked.
--   is_even bs             the four bytes of a filling are equal
--   has_even_fillings l    one byte fills the padding of each section
--   even_byte l ss k       the byte that fills the first section that has byte k; 0 if there is none
--   Marks test from to     the bytes that pass the test are marked, beside those marked before
--   free taken at end      the bytes of a range that are not marked
--   Fills ..               the free bytes of a range up to `next` are filled, and each run restarts the pattern
--   FillsSection ..        the same for all bytes of a section
use Rattle.std.specs.Prelude.{◌≡◌, ℕ, ◌<◌, ◌==◌, Bool, true, not, ◌&&◌, ◌||◌, if◌then◌else◌, nat_le, nat_lt, List, [], ◌∷◌, drop, length, get_or, slice_index}
use Rattle.std.specs.List.{list_all}
use Rattle.wild_types.specs.declared.layout.Layout.{Layout}
use Rattle.wild_types.specs.declared.section.Section.{Section}
use Rattle.wild_relax.specs.Padding.{repeated_byte}
use Rattle.wild_layout.specs.Image.{has_offset, run, filling_of}

-- a byte past the last mark counts as marked
abbrev pub is_taken : List Bool → ℕ → Bool
is_taken taken k = get_or taken k true

pub record Marks (test : ℕ → Bool) (from to : List Bool) : Type 0 where
  pub long : length to ≡ length from
  pub marked : (k : ℕ) → k < length from → is_taken to k ≡ is_taken from k || test k

abbrev pub free : List Bool → (at end k : ℕ) → Bool
free taken at end k = not (is_taken taken k) && (nat_le at k && nat_lt k end)

pub record Fills (bs : List ℕ) (at end next : ℕ) (taken after : List Bool) (old new : List ℕ) : Type 0 where
  pub marks : Marks (λ k. nat_le at k && nat_lt k next) taken after
  pub long : length new ≡ length old
  pub filled : (k : ℕ) → k < length old → slice_index new k ≡ (if free taken at next k then repeated_byte bs (run (free taken at end) k) else slice_index old k)

-- the free bytes of a section are filled
pub record FillsSection (l : Layout) (s : Section) (taken after : List Bool) (old new : List ℕ) : Type 0 where
  pub marks : Marks (λ k. has_offset l k s) taken after
  pub long : length new ≡ length old
  pub filled : (k : ℕ) → k < length old → slice_index new k ≡ (if not (is_taken taken k) && has_offset l k s then repeated_byte (filling_of l.machine s) (run (λ j. not (is_taken taken j) && has_offset l j s) k) else slice_index old k)

-- ---- one byte for a section

abbrev pub is_even : List ℕ → Bool
is_even bs = slice_index bs 0 == slice_index bs 1 && (slice_index bs 0 == slice_index bs 2 && slice_index bs 0 == slice_index bs 3)

abbrev pub fills_evenly : Layout → Section → Bool
fills_evenly l s = is_even (filling_of l.machine s)

abbrev pub has_even_fillings : Layout → Bool
has_even_fillings l = list_all (fills_evenly l) (drop 1 l.sections)

-- the byte that fills the first section that has byte k
abbrev pub even_byte : Layout → List Section → ℕ → ℕ
even_byte l [] k = 0
even_byte l (s ∷ ss) k = if has_offset l k s then slice_index (filling_of l.machine s) 0 else even_byte l ss k
