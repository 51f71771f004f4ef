use Rattle.wild_text.proofs.PlanMemberLemmas.{layout_given}
use Rattle.wild_text.proofs.plan_members.PlanMembers.layout.Goals as goal

pub returns : goal.returns
returns c = layout_given c.args.self c.read_members.result (rw c.object_of.ensures at c.read_members.ensures)
