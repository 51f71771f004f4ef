use Rattle.wild_checker.proofs.Common.{◌≡◌, drop, in_groups}
use Rattle.wild_checker.proofs.question.ask_groups.Given as goal

abbrev pub invariant-loop-n : goal.invariant-loop-n
invariant-loop-n g l = in_groups (g.Q.Question.asks l.question) l.n (drop l.n l.groups) ≡ in_groups (g.Q.Question.asks l.question) 0 l.groups
