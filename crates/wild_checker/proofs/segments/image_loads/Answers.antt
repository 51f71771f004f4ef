use Rattle.wild_checker.proofs.Common.{arith, common_steps, filter_map-append}
use Rattle.wild_checker.proofs.segments.image_loads.Goals as goal

pub loop-header-preserved : goal.loop-header-preserved
loop-header-preserved c = grind (arith, common_steps, filter_map-append)
