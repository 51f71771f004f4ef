use Rattle.std.proofs.Common.{length}
use Rattle.wild_debug.proofs.sharded.+fn-run_shards-join_mut+arg3+run_shards.Given as goal

abbrev pub decreases-join_mut+arg3 : goal.decreases-join_mut+arg3
decreases-join_mut+arg3 g l = length l.rest.now

abbrev pub decreases-run_shards : goal.decreases-run_shards
decreases-run_shards g l = length l.ranges.now
