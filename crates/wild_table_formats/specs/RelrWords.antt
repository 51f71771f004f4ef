-- RELR words in a group's share of a part.
--   Words   what callers see of a table: its words with the open run, and the size of its share in bytes
use Rattle.std.specs.Prelude.{ℕ, List, length}
use Rattle.wild_relr.specs.Encoding.{State, Follows}
use Rattle.wild_relr.specs.declared.writer.RelrWriter.{RelrWriter}
use Rattle.wild_relr.specs.WriterState.{state, ContainsWords}

-- the words of a table with the open run, and the size of its share in bytes
pub record Words : Type 0 where
  pub state : State
  pub room : ℕ

abbrev pub words_of_table : List ℕ → RelrWriter → Words
words_of_table bytes w = record { state = state bytes w; room = length bytes }

-- the words fit in the share, and the state of the open run agrees with them
pub record IsTable (bytes : List ℕ) (w : RelrWriter) : Type 0 where
  pub lies : ContainsWords bytes w
  pub follows : Follows (state bytes w)
