-- Words that are no command.
use Rattle.wild_program.proofs.Common.{ℕ, List, Option, Some, None, inl, inr, String, Global, MatchOption, IsSpace, IsVerify, IsCommand}
use Rattle.wild_program.specs.declared.command.Command.{Command}
use Rattle.wild_program.specs.Program.{IsLink, IsRelink, IsPlace, IsMakeCommand, Asks}

is_no_command : (words : List (String Global)) → (IsSpace words → ⊥) → (IsVerify words → ⊥) → ((n : ℕ) → IsLink words n → ⊥) → ((n : ℕ) → IsRelink words n → ⊥) → ((n : ℕ) → IsPlace words n → ⊥) → (IsMakeCommand words → ⊥) → IsCommand words → ⊥
is_no_command words space verify link relink place make (inl (inl k)) = link k.0 k.1
is_no_command words space verify link relink place make (inl (inr (inl k))) = relink k.0 k.1
is_no_command words space verify link relink place make (inl (inr (inr (inl k)))) = place k.0 k.1
is_no_command words space verify link relink place make (inl (inr (inr (inr (inl k))))) = space k
is_no_command words space verify link relink place make (inl (inr (inr (inr (inr k))))) = verify k
is_no_command words space verify link relink place make (inr k) = make k

-- words that are none of the others are the command that makes a layout, or no command
pub last_command : (words : List (String Global)) (o : Option Command) → (IsSpace words → ⊥) → (IsVerify words → ⊥) → ((n : ℕ) → IsLink words n → ⊥) → ((n : ℕ) → IsRelink words n → ⊥) → ((n : ℕ) → IsPlace words n → ⊥) → MatchOption o (IsMakeCommand words → ⊥) (Asks words) → MatchOption o (IsCommand words → ⊥) (Asks words)
last_command words None space verify link relink place make = is_no_command words space verify link relink place make
last_command words (Some c) space verify link relink place make = make
