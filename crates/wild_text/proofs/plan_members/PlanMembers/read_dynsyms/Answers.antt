use Rattle.std.proofs.Common.{refl}
use Rattle.wild_text.proofs.PlanMemberLemmas.{dynsyms_next}
use Rattle.wild_text.proofs.plan_members.PlanMembers.read_dynsyms.Goals as goal

pub returns-clause-ok : goal.returns-clause-ok
returns-clause-ok c = dynsyms_next c.args.depth c.args.reader.now c.read_list.new.reader c.args.self.now _ c.in_ok-dynsyms.dynsyms c.in_ok-dynsyms.ensures.ok refl
