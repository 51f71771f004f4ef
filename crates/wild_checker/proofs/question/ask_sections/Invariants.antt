use Rattle.wild_checker.proofs.Common.{◌≡◌, drop}
use Rattle.wild_checker.specs.Search.{in_sections}
use Rattle.wild_checker.proofs.question.ask_sections.Given as goal

abbrev pub invariant-loop-n : goal.invariant-loop-n
invariant-loop-n g l = in_sections (g.Q.Question.asks l.question l.file) l.group l.position l.n (drop l.n l.file.sections) ≡ in_sections (g.Q.Question.asks l.question l.file) l.group l.position 0 l.file.sections
