use Rattle.std.proofs.Common.{refl}
use Rattle.wild_text.proofs.PlanMemberLemmas.{sorted_next}
use Rattle.wild_text.proofs.plan_members.PlanMembers.read_sorted.Goals as goal

pub returns-clause-ok : goal.returns-clause-ok
returns-clause-ok c = sorted_next c.args.depth c.args.reader.now c.read_list.new.reader c.args.self.now _ c.in_ok-sorted.sorted c.in_ok-sorted.ensures.ok refl
