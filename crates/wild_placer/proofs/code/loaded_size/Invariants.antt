use Rattle.wild_placer.proofs.Common.{◌≤◌}
use Rattle.wild_placer.proofs.code.loaded_size.Given as goal

abbrev pub invariant-loop-segment : goal.invariant-loop-segment
invariant-loop-segment l = 64 ≤ l.end
