use Rattle.wild_image.proofs.Common.{◌≤◌, length, ap, arith, rules, slice_get_within}
use Rattle.wild_image.proofs.AppendLemmas.{read_at}
use Rattle.wild_image.proofs.TableLemmas.{nothing_more, others_give_nothing}
use Rattle.wild_image.proofs.buffer.room_of_tables.Goals as goal

pub loop-i-preserved : goal.loop-i-preserved
loop-i-preserved c = λ none.
    let l = c.args.layout.now in
    let at = read_at l.parts c.as_slice-part-items.result.now c.loop-i.i _ c.as_slice-part-items.ensures c.loop-i-test.true c.part-item.is in
    let sum = c.saturating_add-room.ensures in
    nothing_more l c.args.batch.now.groups.now c.loop-i.i _ at (c.total_written.ensures (omega (arith, sum, none))) (c.loop-i.invariant (omega (arith, sum, none)))

pub returns : goal.returns
returns c = λ none k p at. c.loop-i.invariant none k p (let low = slice_get_within c.args.layout.now.parts k p at in let same = ap length c.as_slice-part-items.ensures in omega (arith, low, same, c.loop-i-test.false)) at

pub returns-then-batch-ne0 : goal.returns-then-batch-ne0
returns-then-batch-ne0 c = λ e.
    (let behind : 1 ≤ c.args.batch.now.first = search rules in
    others_give_nothing c.args.layout.now c.args.batch.now (c.requires.facts.only_first_group_has_tables c.if-facts.true) c.requires.within behind)
