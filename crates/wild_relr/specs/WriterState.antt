-- Words in bytes.
--   word_bytes words  the bytes of consecutive words
--   words_in bytes n  the n words of eight bytes at the front
--   state bytes w     a writer's words, and the state of their run
--   ContainsWords bytes w      the part contains a writer's words
use Rattle.std.specs.Prelude.{◌≡◌, ℕ, zero, suc, ◌*◌, ◌<◌, ◌≤◌, List, [], ◌∷◌, ◌++◌, length, take}
use Rattle.std.specs.List.{flat_map}
use Rattle.wild_words.specs.Words.{word, number_at}
use Rattle.wild_relr.specs.declared.run.Run.{Run}
use Rattle.wild_relr.specs.declared.run.Run.TheVariants.{Closed, Address, Bitmap}
use Rattle.wild_relr.specs.declared.run.Choice.{Choice}
use Rattle.wild_relr.specs.declared.run.Choice.TheVariants.{Joins, Adds}
use Rattle.wild_relr.specs.Encoding.{State}
use Rattle.wild_relr.specs.declared.writer.RelrWriter.{RelrWriter}

-- the bytes of consecutive words (gABI, "Relative Relocation Table", Elf64_Relr)
abbrev pub word_bytes : List ℕ → List ℕ
word_bytes ws = flat_map (λ w. word 8 w) ws

-- the n words of eight bytes at the front
unfoldable pub words_in : List ℕ → ℕ → List ℕ
words_in bytes zero = []
words_in bytes (suc n) = words_in bytes n ++ number_at bytes (8 * n) 8 ∷ []

-- a bit that is to be set has a number below 63
abbrev pub IsInWord : Choice → Type 0
IsInWord (Joins i) = i < 63
IsInWord (Adds w r) = Unit {0}

-- a writer's words, and the state of their run
abbrev pub state : List ℕ → RelrWriter → State
state bytes r = record { run = r.run; words = words_in bytes r.count }

-- if the run ends in a bitmap, there is a word
abbrev pub HasLast : Run → ℕ → Type 0
HasLast Closed n = Unit {0}
HasLast (Address a) n = Unit {0}
HasLast (Bitmap s) n = 0 < n

-- the first bytes are the encoding of the words read from them
unfoldable pub IsSpelled : List ℕ → ℕ → Type 0
IsSpelled bytes n = take (8 * n) bytes ≡ word_bytes (words_in bytes n)

-- the part contains a writer's words
pub record ContainsWords (bytes : List ℕ) (r : RelrWriter) : Type 0 where
  pub fits : 8 * r.count ≤ length bytes
  pub last : HasLast r.run r.count
  pub spelled : IsSpelled bytes r.count
