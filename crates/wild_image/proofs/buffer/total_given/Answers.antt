use Rattle.wild_image.proofs.Common.{◌≡◌, ◌∙◌, ap, sym, arith, take_all, given, total}
use Rattle.wild_image.proofs.TableLemmas.{none_more}
use Rattle.wild_image.proofs.buffer.total_given.Goals as goal

pub loop-group-preserved : goal.loop-group-preserved
loop-group-preserved c = λ none.
    let sum = c.saturating_add-sum.ensures in
    let here : c.given.result ≡ 0 = omega (arith, sum, none) in
    none_more (given c.args.i) c.args.groups.now c.loop-group.group-index c.group-item.result c.loop-group-test.true c.group-item.is (c.loop-group.invariant (omega (arith, sum, none))) (sym c.given.ensures ∙ here)

pub returns : goal.returns
returns c = λ none. sym (ap (total (given c.args.i)) (take_all c.loop-group.group-index c.args.groups.now c.loop-group-test.false)) ∙ c.loop-group.invariant none
