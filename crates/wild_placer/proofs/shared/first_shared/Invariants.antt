use Rattle.wild_placer.proofs.Common.{nat_cmp, get, IsLeastOfRuns}
use Rattle.wild_placer.proofs.shared.first_shared.Given as goal

abbrev pub invariant-loop-run : goal.invariant-loop-run
invariant-loop-run l = IsLeastOfRuns (get nat_cmp l.starts) l.runs l.run-index l.found
