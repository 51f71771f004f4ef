-- What the program says about a plan to its author.
--   Asks words command        the words are that command
--   link_line meaning         the first line of `link`'s answer
--   IsRightText command meaning ..  the status and the text are right for the meaning of a plan's bytes
--   IsAnswered words turn told said   the returned status belongs to an answer that is right for the input, and that was written
use Rattle.std.specs.Prelude.{◌≡◌, ℕ, List, [], ◌∷◌, ◌++◌, length, map, codes, string_bytes, String, ◌⊎◌}
use Rattle.std.specs.declared.alloc.Global.{Global}
use Rattle.wild_io.specs.Causes.{CountRose}
use Rattle.wild_types.specs.declared.fault.Error.{Error}
use Rattle.wild_types.specs.declared.fault.Fault.TheVariants.{OutOfMemory}
use Rattle.wild_types.specs.declared.layout.Layout.{Layout}
use Rattle.wild_layout.specs.Image.{bytes}
use Rattle.wild_layout.specs.Faults.{errors}
use Rattle.wild_text.specs.Answer.{image_line, refusal_text, no_plan_text}
use Rattle.wild_text.specs.Means.{Meaning, no_json, no_plan, plan, Means}
use Rattle.wild_program.specs.Exit as exit
use Rattle.wild_program.specs.Program.{Answer, usage, read_fault, too_long, of_plan, text, layout_status, SourceChange, SinkChange, HasMeaning, IsTooLong, NothingRead, IsWritten}
use Rattle.wild_explain.specs.declared.command.Command.{Command}
use Rattle.wild_explain.specs.declared.command.Command.TheVariants as command

-- one word is a command
abbrev pub IsOneWord : List ℕ → Command → Type 0
IsOneWord word (command.Explain view) = word ≡ codes "explain"
IsOneWord word command.Needs = word ≡ codes "needs"

-- the words are `needs`; every other command, `explain` among them, explains
abbrev pub Asks : List (String Global) → Command → Type 0
Asks words (command.Explain view) = map string_bytes words ≡ codes "needs" ∷ [] → ⊥
Asks words command.Needs = map string_bytes words ≡ codes "needs" ∷ []

-- the words are a command without options
abbrev pub IsPlain : List (String Global) → Type 0
IsPlain words = (map string_bytes words ≡ codes "explain" ∷ []) ⊎ (map string_bytes words ≡ codes "needs" ∷ [])

-- the text begins with a line
abbrev pub Begins : List ℕ → List ℕ → Type 0
Begins line text = (rest : List ℕ) × (text ≡ line ++ rest)

-- the first line of `link`'s answer for a layout with these faults
abbrev pub errors_line : Layout → List Error → List ℕ
errors_line l [] = image_line (length (bytes l))
errors_line l (e ∷ es) = refusal_text e

-- the first line of `link`'s answer
abbrev pub link_line : Meaning Layout → List ℕ
link_line no_json = codes "not a plan: json\n"
link_line (no_plan path) = no_plan_text path
link_line (plan l) = errors_line l (errors l)

-- the answer of `link` begins with that line
abbrev pub LinkLineIsFirst : Type 0
LinkLineIsFirst = (m : Meaning Layout) → Begins (link_line m) (text (of_plan m))

-- the status of `link`, and a text that begins with its first line
abbrev pub IsExplained : Layout → ℕ → List ℕ → Type 0
IsExplained l code said = (code ≡ layout_status l) × Begins (errors_line l (errors l)) said

-- the status and the text are right for the meaning of a plan's bytes
abbrev pub IsRightText : Command → Meaning Layout → ℕ → List ℕ → Type 0
IsRightText c no_json code said = (code ≡ exit.no_plan) × Begins (link_line no_json) said
IsRightText c (no_plan path) code said = (code ≡ exit.no_plan) × Begins (link_line (no_plan path)) said
IsRightText (command.Explain view) (plan l) code said = IsExplained l code said
IsRightText command.Needs (plan l) code said = code ≡ exit.linked

-- a fault other than out of memory: the text begins with its line
pub record IsRefusedAs (error : Error) (code : ℕ) (said : List ℕ) : Type 0 where
  pub known : error.fault ≡ OutOfMemory → ⊥
  pub status_is : code ≡ exit.refused
  pub begins : Begins (refusal_text error) said

-- the status and the text are right for the meaning of these bytes
pub record IsAnswerOf (whole : List ℕ) (c : Command) (code : ℕ) (said : List ℕ) : Type 0 where
  pub meaning : Meaning Layout
  pub means : Means whole meaning
  pub told_is : IsRightText c meaning code said

-- the list of the commands
abbrev pub usage_text : List ℕ
usage_text = codes "usage: explain [--first | --all] [--relocations] [--byte OFFSET] | needs\n"

-- the answer, with its status and its text, is right for the words and the input
abbrev pub IsRightAnswer : List (String Global) → SourceChange → ℕ → List ℕ → Answer → Type 0
IsRightAnswer words t code said usage = (IsPlain words → ⊥) × NothingRead t × (code ≡ exit.usage) × (said ≡ usage_text)
IsRightAnswer words t code said read_fault = ((c : Command) × Asks words c) × CountRose t.faults_before t.faults_after × (code ≡ exit.read_fault) × (said ≡ text read_fault)
IsRightAnswer words t code said too_long = ((c : Command) × Asks words c) × IsTooLong t × (code ≡ exit.too_long) × (said ≡ text too_long)
IsRightAnswer words t code said (of_plan meaning) = (c : Command) × Asks words c × HasMeaning t meaning × IsRightText c meaning code said
IsRightAnswer words t code said other = ⊥

-- the returned status belongs to an answer that is right for the input, and that was written
pub record IsAnswered (words : List (String Global)) (t : SourceChange) (u : SinkChange) (said : ℕ) : Type 0 where
  pub answer : Answer
  pub code : ℕ
  pub words_said : List ℕ
  pub due : IsRightAnswer words t code words_said answer
  pub told_as : IsWritten u code words_said said
