use Rattle.wild_checker.proofs.Common.{◌≡◌, drop}
use Rattle.wild_checker.specs.Search.{in_files}
use Rattle.wild_checker.proofs.question.ask_files.Given as goal

abbrev pub invariant-loop-n : goal.invariant-loop-n
invariant-loop-n g l = in_files (g.Q.Question.asks l.question) l.group l.n (drop l.n l.files) ≡ in_files (g.Q.Question.asks l.question) l.group 0 l.files
