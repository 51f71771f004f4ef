use Rattle.std.proofs.Common.{refl}
use Rattle.wild_text.proofs.PlanMemberLemmas.{symbols_next}
use Rattle.wild_text.proofs.plan_members.PlanMembers.read_symbols.Goals as goal

pub returns-clause-ok : goal.returns-clause-ok
returns-clause-ok c = symbols_next c.args.depth c.args.reader.now c.read_list.new.reader c.args.self.now _ c.in_ok-symbols.symbols c.in_ok-symbols.ensures.ok refl
