use Rattle.wild_image.proofs.Common.{◌≡◌, true, length, ap, sym, ◌∙◌, arith, rules, subst, slice_get_within, Part, has_all}
use Rattle.wild_image.proofs.PlainLemmas.{all_more}
use Rattle.wild_image.proofs.shares.has_all_parts.Goals as goal

pub loop-i-preserved : goal.loop-i-preserved
loop-i-preserved c =
    let told : c.has_all.result ≡ true = search rules in
    let here = subst (λ (p : Part). has_all c.loop-i.i p c.args.group.now ≡ true) c.part-item.is (sym c.has_all.ensures ∙ told) in
    all_more c.args.layout.now c.args.group.now c.as_slice-part-items.result.now c.loop-i.i c.part-item.result c.as_slice-part-items.ensures c.loop-i-test.true c.loop-i.invariant here

pub returns : goal.returns
returns c = λ e k p at. c.loop-i.invariant k p (let low = slice_get_within c.args.layout.now.parts k p at in let same = ap length c.as_slice-part-items.ensures in omega (arith, low, same, c.loop-i-test.false)) at
