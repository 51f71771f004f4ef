use Rattle.wild_sample_layouts.specs.PlanOfGroups.{made_symbol}
use Rattle.wild_sample_layouts.proofs.MakeLemmas.{one_more}
use Rattle.wild_sample_layouts.proofs.plan.symbols.Goals as goal

pub loop-i-preserved : goal.loop-i-preserved
loop-i-preserved c = one_more made_symbol _ _ _ _ c.loop-i.invariant c.symbol.ensures c.in_ok-push.ensures.items
