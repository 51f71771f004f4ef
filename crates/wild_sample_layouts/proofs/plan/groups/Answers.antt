use Rattle.wild_sample_layouts.specs.PlanOfGroups.{made_group}
use Rattle.wild_sample_layouts.proofs.MakeLemmas.{one_more}
use Rattle.wild_sample_layouts.proofs.plan.groups.Goals as goal

pub loop-i-preserved : goal.loop-i-preserved
loop-i-preserved c = one_more (made_group c.args.count) _ _ _ _ c.loop-i.invariant c.in_ok-group.ensures c.in_ok-push.ensures.items
