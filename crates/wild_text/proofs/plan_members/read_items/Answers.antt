use Rattle.wild_text.proofs.PlanMemberLemmas.{items_go_on}
use Rattle.wild_text.proofs.plan_members.read_items.Goals as goal

pub list-preserved-in_ok-push : goal.list-preserved-in_ok-push
list-preserved-in_ok-push g c = rw c.in_ok-push.ensures.items (items_go_on g.T.Planned.reads c.args.depth c.args.reader.now c.list.reader c.next_item.new.reader c.list.items.items _ c.in_ok-item.item
    (rw c.in-Some.is at c.in_ok-value.ensures.item) c.in_ok-value.ensures.shorter c.in_ok-item.ensures c.list.invariant)

pub list-preserved-in_ok-push-2 : goal.list-preserved-in_ok-push-2
list-preserved-in_ok-push-2 g c = rw c.in_ok-push.ensures.items (items_go_on g.T.Planned.reads c.args.depth c.args.reader.now c.list.reader c.next_item.new.reader c.list.items.items _ c.in_ok-item.item
    (rw c.in-Some.is at c.in_ok-value.ensures.item) c.in_ok-value.ensures.shorter c.in_ok-item.ensures c.list.invariant)

pub list-preserved : goal.list-preserved
list-preserved g c = rw c.in_ok-push.ensures.items (items_go_on g.T.Planned.reads c.args.depth c.args.reader.now c.list.reader c.next_item.new.reader c.list.items.items _ c.in_ok-item.item
    (rw c.in-Some.is at c.in_ok-value.ensures.item) c.in_ok-value.ensures.shorter c.in_ok-item.ensures c.list.invariant)
