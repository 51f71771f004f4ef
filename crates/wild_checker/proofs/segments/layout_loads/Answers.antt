use Rattle.wild_checker.proofs.Common.{arith, common_steps, filter_map-append}
use Rattle.wild_checker.proofs.segments.layout_loads.Goals as goal

pub loop-segment-preserved : goal.loop-segment-preserved
loop-segment-preserved c = grind (arith, common_steps, filter_map-append)
