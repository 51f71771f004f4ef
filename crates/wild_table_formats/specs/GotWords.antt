-- Consecutive words of 8 bytes, and the bytes of stubs.
--   GotWords   what callers see of a table of GOT words: the words, and the size of its share in bytes
--   Stubs      the same for stubs: their bytes, and the size of their share
use Rattle.std.specs.Prelude.{ℕ, ◌*◌, ◌≤◌, List, length, take}
use Rattle.wild_relr.specs.WriterState.{words_in, IsSpelled}

pub record GotWords : Type 0 where
  pub words : List ℕ
  pub room : ℕ

abbrev pub words_of_part : List ℕ → ℕ → GotWords
words_of_part bytes n = record { words = words_in bytes n; room = length bytes }

-- n words fit in the share, and are written there
pub record IsWordTable (bytes : List ℕ) (n : ℕ) : Type 0 where
  pub fits : 8 * n ≤ length bytes
  pub spelled : IsSpelled bytes n

pub record Stubs : Type 0 where
  pub bytes : List ℕ
  pub room : ℕ

abbrev pub stubs_of_part : List ℕ → ℕ → Stubs
stubs_of_part bytes n = record { bytes = take n bytes; room = length bytes }
