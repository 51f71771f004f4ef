use Rattle.wild_image.proofs.Common.{◌≡◌, ◌+◌, true, refl, arith, rules, subst, slice_get_within, Group, HasCorrectShares}
use Rattle.wild_image.proofs.AppendLemmas.{read_at}
use Rattle.wild_image.proofs.PlainLemmas.{item_more}
use Rattle.wild_image.proofs.shares.batch_is_correct.Goals as goal

pub shares_are_correct-requires-clause-group : goal.shares_are_correct-requires-clause-group
shares_are_correct-requires-clause-group c = c.requires.within c.loop-i.i c.group-item.result (read_at c.args.batch.now.groups.now c.args.batch.now.groups.now c.loop-i.i c.group-item.result refl c.loop-i-test.true c.group-item.is)

pub loop-i-preserved : goal.loop-i-preserved
loop-i-preserved c =
    let l = c.args.layout.now in
    let b = c.args.batch.now in
    let found : c.shares_are_correct.result ≡ true = search rules in
    let here = subst (λ (g : Group). HasCorrectShares l (b.first + c.loop-i.i) g) c.group-item.is (c.shares_are_correct.ensures found) in
    item_more (λ j g. HasCorrectShares l (b.first + j) g) b.groups.now b.groups.now c.loop-i.i c.group-item.result refl c.loop-i-test.true c.loop-i.invariant here

pub returns : goal.returns
returns c = λ e j g at. c.loop-i.invariant j g (let low = slice_get_within c.args.batch.now.groups.now j g at in omega (arith, low, c.loop-i-test.false)) at
