use Rattle.std.proofs.Common.{refl}
use Rattle.wild_text.proofs.PlanMemberLemmas.{groups_next}
use Rattle.wild_text.proofs.plan_members.PlanMembers.read_groups.Goals as goal

pub returns-clause-ok : goal.returns-clause-ok
returns-clause-ok c = groups_next c.args.depth c.args.reader.now c.read_list.new.reader c.args.self.now _ c.in_ok-groups.groups c.in_ok-groups.ensures.ok refl
