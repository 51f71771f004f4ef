use Rattle.std.proofs.Common.{refl}
use Rattle.wild_text.proofs.PlanMemberLemmas.{merged_next}
use Rattle.wild_text.proofs.plan_members.PlanMembers.read_merged.Goals as goal

pub returns-clause-ok : goal.returns-clause-ok
returns-clause-ok c = merged_next c.args.depth c.args.reader.now c.read_list.new.reader c.args.self.now _ c.in_ok-merged.merged c.in_ok-merged.ensures.ok refl
