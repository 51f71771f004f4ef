use Rattle.std.proofs.Common.{sym, refl}
use Rattle.wild_text.proofs.PlanMemberLemmas.{kept_next}
use Rattle.wild_text.proofs.plan_members.PlanMembers.keep.Goals as goal

pub returns-clause-ok : goal.returns-clause-ok
returns-clause-ok c =
    kept_next c.args.depth c.args.reader.now c.read_value.new.reader c.args.self.now _ c.args.name c.in_ok-value.value c.requires.short (sym c.if-not-is_among.ensures) c.in_ok-value.ensures.ok c.in_ok-push.ensures.items refl
