use Rattle.wild_image.proofs.Common.{◌≡◌, ◌≤◌, true, [], length, ap, arith, rules, subst, slice_get_within, Part, share_faults}
use Rattle.wild_image.proofs.AppendLemmas.{read_at}
use Rattle.wild_image.proofs.PlainLemmas.{others_plain, share_more}
use Rattle.wild_image.proofs.shares.shares_are_correct.Goals as goal

pub returns-then-index-ne0 : goal.returns-then-index-ne0
returns-then-index-ne0 c = λ e i p part.
    (let behind : 1 ≤ c.args.index = search rules in
    others_plain c.args.layout.now i c.args.index p c.args.group.now part c.requires.group (c.requires.facts.only_first_group_has_tables c.if-facts.true) behind (c.is_plain-plain.ensures c.if-plain.true))

pub share_is_correct-requires-clause-part : goal.share_is_correct-requires-clause-part
share_is_correct-requires-clause-part c = read_at c.args.layout.now.parts c.as_slice-part-items.result.now c.loop-i.i c.part-item.result c.as_slice-part-items.ensures c.loop-i-test.true c.part-item.is

pub loop-i-preserved : goal.loop-i-preserved
loop-i-preserved c =
    let told : c.share_is_correct.result ≡ true = search rules in
    let here = subst (λ (p : Part). share_faults c.args.layout.now c.loop-i.i p c.args.index c.args.group.now ≡ []) c.part-item.is (c.share_is_correct.ensures told) in
    share_more c.args.layout.now c.args.index c.args.group.now c.as_slice-part-items.result.now c.loop-i.i c.part-item.result c.as_slice-part-items.ensures c.loop-i-test.true c.loop-i.invariant here

pub returns : goal.returns
returns c = λ e k p at. c.loop-i.invariant k p (let low = slice_get_within c.args.layout.now.parts k p at in let same = ap length c.as_slice-part-items.ensures in omega (arith, low, same, c.loop-i-test.false)) at
