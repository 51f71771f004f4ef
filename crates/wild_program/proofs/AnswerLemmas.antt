-- From the command and the bytes of its input to the right answer for the words.
use Rattle.wild_program.proofs.Common.{◌≡◌, ℕ, List, true, Some, refl, sym, subst, inl, inr, String, Global, Meaning, no_json, no_plan, plan, Answer, IsReading, SourceChange, IsRightAnswer}
use Rattle.wild_program.specs.declared.command.Command.{Command}
use Rattle.wild_program.specs.declared.command.Command.TheVariants as command
use Rattle.wild_program.specs.Exit as exit
use Rattle.wild_program.specs.Program.{Asks, meaning_status, meaning_text}
use Rattle.wild_program.specs.Steps.{MeaningHas, no_plan_line, HasRightNumbers, reads_input, IsInput, IsMeant}

-- the status and the text for bytes that are no plan
pub no_plan_said : {X : Type 0} (status_of : X → ℕ) (text_of : X → List ℕ) (m : Meaning X) (said : List ℕ) → no_plan_line m ≡ Some said → (exit.no_plan ≡ meaning_status status_of m) × (said ≡ meaning_text text_of m)
no_plan_said status_of text_of no_json said h = (refl, cc)
no_plan_said status_of text_of (no_plan path) said h = (refl, cc)
no_plan_said status_of text_of (plan x) said h = absurd cc

pub no_plan_has : {X : Type 0} (P : X → Type 0) (m : Meaning X) (said : List ℕ) → no_plan_line m ≡ Some said → MeaningHas P m
no_plan_has P no_json said h = tt
no_plan_has P (no_plan path) said h = tt
no_plan_has P (plan x) said h = absurd cc

-- the numbers of the words are in their ranges
pub right_numbers : (words : List (String Global)) (c : Command) → Asks words c → HasRightNumbers c
right_numbers words (command.Link w) h = (h.1, h.2)
right_numbers words (command.Make n w) h = (h.1, h.2, h.3, h.4)
right_numbers words (command.Relink w) h = (h.1, h.2)
right_numbers words (command.Place w) h = (h.1, h.2)
right_numbers words command.Space h = tt
right_numbers words command.Verify h = tt

-- the words of a command that reads its input
pub is_reading : (words : List (String Global)) (c : Command) → Asks words c → reads_input c ≡ true → IsReading words
is_reading words (command.Link w) h reads = inl (w, h)
is_reading words (command.Make n w) h reads = absurd cc
is_reading words (command.Relink w) h reads = inr (inl (w, h))
is_reading words (command.Place w) h reads = inr (inr (inl (w, h)))
is_reading words command.Space h reads = inr (inr (inr (inl h)))
is_reading words command.Verify h reads = inr (inr (inr (inr h)))

-- the answer for the command and the bytes of its input is the one for the words
pub right_answer : (words : List (String Global)) (t : SourceChange) (c : Command) (whole : List ℕ) (a : Answer) → Asks words c → IsInput c t whole → IsMeant c whole a → IsRightAnswer words t a
right_answer words t (command.Link w) whole a asks read meant = subst (λ (b : Answer). IsRightAnswer words t b) (sym meant.1) ((w, asks), (whole, read, meant.2))
right_answer words t (command.Make n w) whole a asks read meant = subst (λ (b : Answer). IsRightAnswer words t b) (sym meant) ((w, asks), read)
right_answer words t (command.Relink w) whole a asks read meant = subst (λ (b : Answer). IsRightAnswer words t b) (sym meant.1) ((w, asks), (whole, read, meant.2))
right_answer words t (command.Place w) whole a asks read meant = subst (λ (b : Answer). IsRightAnswer words t b) (sym meant.1) ((w, asks), (whole, read, meant.2))
right_answer words t command.Space whole a asks read meant = subst (λ (b : Answer). IsRightAnswer words t b) (sym meant.1) (asks, (whole, read, meant.2))
right_answer words t command.Verify whole a asks read meant = subst (λ (b : Answer). IsRightAnswer words t b) (sym meant.2) (asks, (whole, read, meant.3), meant.4)
