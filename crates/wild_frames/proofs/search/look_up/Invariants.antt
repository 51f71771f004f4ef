use Rattle.std.proofs.Common.{◌-◌}
use Rattle.wild_frames.proofs.TableLemmas.{IsHalved}
use Rattle.wild_frames.proofs.search.look_up.Given as goal

abbrev pub invariant-loop-low : goal.invariant-loop-low
invariant-loop-low l = IsHalved l.table l.most l.low l.high

abbrev pub decreases-loop-low : goal.decreases-loop-low
decreases-loop-low l = l.high - l.low
