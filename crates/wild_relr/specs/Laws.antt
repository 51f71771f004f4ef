-- What a reader of words finds.
--   LengthsOfWords  each word has 8 bytes
--   WordsAreRead    word k is read at offset 8 k
--   WordsFit        the words of a run of places are numbers of 8 bytes
use Rattle.std.specs.Prelude.{◌≡◌, ℕ, ◌+◌, ◌*◌, ◌^◌, ◌<◌, List, length, All, slice_index_or}
use Rattle.wild_words.specs.Words.{number_at, HasBytesAt}
use Rattle.wild_relr.specs.RunWords.{packed}
use Rattle.wild_relr.specs.WriterState.{word_bytes}

-- each word has 8 bytes
abbrev pub LengthsOfWords : Type 0
LengthsOfWords = (ws : List ℕ) → length (word_bytes ws) ≡ 8 * length ws

-- in the bytes of words, word k is read at offset 8 k
abbrev pub WordsAreRead : Type 0
WordsAreRead = (whole ws : List ℕ) (at k d : ℕ) → All (λ w. w < 2 ^ 64) ws → HasBytesAt whole at (word_bytes ws) → k < length ws → number_at whole (at + 8 * k) 8 ≡ slice_index_or ws k d

-- a number of 8 bytes (gABI, "Data Representation", Elf64_Relr)
abbrev pub IsWord : ℕ → Type 0
IsWord x = x < 2 ^ 64

-- if each place of a run is a number of 8 bytes, so is each word of the run
abbrev pub WordsFit : Type 0
WordsFit = (ps : List ℕ) → All IsWord ps → All IsWord (packed ps)
