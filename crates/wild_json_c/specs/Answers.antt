-- What `wild_link_json` answers.
--   IsLinked ..            the text of `link 1` for the plan was written, with its status; or only its length, if there is no room
--   IsSoundlyLinked ..     for each layout that the plan encodes, the text of a sound image of it was written
use Rattle.std.specs.Prelude.{◌≡◌, ℕ, Bool, true, false, List, length}
use Rattle.wild_types.specs.declared.layout.Layout.{Layout}
use Rattle.wild_text.specs.Means.{Means, plan}
use Rattle.wild_c_layout.specs.Text.{fits, put}
use Rattle.wild_program.specs.declared.command.Command.TheVariants.{Link}
use Rattle.wild_program.specs.Program.{IsLinkedText}
use Rattle.wild_program.specs.Steps.{IsAnswerOf}

-- the text of an image was written
abbrev pub linked : ℕ
linked = 0

-- out of memory
abbrev pub no_memory : ℕ
no_memory = 6

-- the text is longer than the buffer
abbrev pub wrong_size : ℕ
wrong_size = 8

-- the status, if the text was written
abbrev pub status_if : Bool → ℕ → ℕ
status_if true code = code
status_if false code = wrong_size

-- the status and the text are those of `link 1` for the bytes of a plan (`before` and `after`: the buffer)
pub record IsLinked (whole before after : List ℕ) (used result : ℕ) : Type 0 where
  pub code : ℕ
  pub text : List ℕ
  pub answer : IsAnswerOf (Link 1) whole code text
  pub length_is : used ≡ length text
  pub buffer : after ≡ put text before
  pub status : result ≡ status_if (fits text before) code

-- the text of a sound image of the layout was written, and its length
pub record IsTextOf (layout : Layout) (before after : List ℕ) (used : ℕ) : Type 0 where
  pub text : List ℕ
  pub sound : IsLinkedText layout text
  pub length_is : used ≡ length text
  pub buffer : after ≡ put text before

-- so of each layout that the bytes of a plan encode; they encode one
abbrev pub IsSoundlyLinked : List ℕ → List ℕ → List ℕ → ℕ → Type 0
IsSoundlyLinked whole before after used = (layout : Layout) → Means whole (plan layout) → IsTextOf layout before after used
