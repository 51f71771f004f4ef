use Rattle.wild_checker.proofs.Common.{arith, common_steps, filter_map-append}
use Rattle.wild_checker.proofs.outline.listed_resolvers.Goals as goal

pub loop-symbol-preserved : goal.loop-symbol-preserved
loop-symbol-preserved c = grind (arith, common_steps, filter_map-append)
