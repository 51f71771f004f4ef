use Rattle.wild_text.proofs.PlanMemberLemmas.{members_go_on}
use Rattle.wild_text.proofs.plan_members.read_object.Goals as goal

pub object-preserved : goal.object-preserved
object-preserved c =
    members_go_on c.args.depth c.args.reader.now c.object.reader c.next_name.new.reader c.read_member.new.reader c.in-Some.name.now c.object.members c.read_member.new.self
    (rw c.in-Some.is at c.in_ok-name.ensures.name) c.in_ok-name.ensures.shorter c.in_ok-read_member.ensures.shorter c.in_ok-read_member.ensures.ok c.object.invariant
