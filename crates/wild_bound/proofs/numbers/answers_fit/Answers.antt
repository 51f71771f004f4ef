use Rattle.wild_bound.proofs.Common.{◌≡◌, take, arith, subst, List, All, AnswerNumbers, Answer}
use Rattle.std.proofs.lemmas.List.{take_all}
use Rattle.std.proofs.lemmas.List.Elements.{All-more}
use Rattle.wild_bound.proofs.numbers.answers_fit.Goals as goal

abbrev Fits : Answer → Type 0
Fits x = AnswerNumbers x

pub loop-answer-preserved : goal.loop-answer-preserved
loop-answer-preserved c = All-more Fits _ _ c.answer-item.result c.loop-answer-test.true c.loop-answer.invariant (subst Fits c.answer-item.is c.answer_fits.ensures)

pub returns : goal.returns
returns c =
    let e : take c.loop-answer.answer-index c.args.answers.now ≡ c.args.answers.now = take_all _ _ (omega arith) in
    let P : List Answer → Type 0 = λ xs. All Fits xs in
    subst P e c.loop-answer.invariant
