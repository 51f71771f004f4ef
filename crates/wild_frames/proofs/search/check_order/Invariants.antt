use Rattle.std.proofs.Common.{◌-◌}
use Rattle.wild_frames.proofs.TableLemmas.{IsOrderedTo}
use Rattle.wild_frames.proofs.search.check_order.Given as goal

abbrev pub invariant-loop-index : goal.invariant-loop-index
invariant-loop-index l = IsOrderedTo l.table l.index

abbrev pub decreases-loop-index : goal.decreases-loop-index
decreases-loop-index l = l.count - l.index
