use Rattle.std.proofs.Common.{length}
use Rattle.wild_text.proofs.PlanMemberLemmas.{RestOfItems}
use Rattle.wild_text.proofs.plan_members.read_items.Given as goal

abbrev pub invariant-list : goal.invariant-list
invariant-list g l = RestOfItems g.T.Planned.reads l.depth l.initial.reader l.reader l.items.items

abbrev pub decreases-list : goal.decreases-list
decreases-list g l = length l.reader
