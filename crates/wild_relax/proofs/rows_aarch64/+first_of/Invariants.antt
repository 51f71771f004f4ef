use Rattle.std.proofs.Common.{length}
use Rattle.wild_relax.proofs.rows_aarch64.+first_of.Given as goal

abbrev pub decreases-first_of : goal.decreases-first_of
decreases-first_of l = length l.rows.now
