use Rattle.wild_bound.proofs.Common.{take, All, AnswerNumbers}
use Rattle.wild_bound.proofs.numbers.answers_fit.Given as goal

abbrev pub invariant-loop-answer : goal.invariant-loop-answer
invariant-loop-answer l = All AnswerNumbers (take l.answer-index l.answers)
