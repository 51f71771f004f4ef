use Rattle.std.proofs.Common.{length}
use Rattle.wild_relax.proofs.sequence.+is_following.Given as goal

abbrev pub decreases-is_following : goal.decreases-is_following
decreases-is_following l = length l.types.now
