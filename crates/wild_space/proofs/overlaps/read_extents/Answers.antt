use Rattle.wild_space.proofs.Loops.{extents_next, extents_done}
use Rattle.wild_space.proofs.overlaps.read_extents.Goals as goal

pub loop-i-preserved : goal.loop-i-preserved
loop-i-preserved c = record {
  same = extents_next _ _ _ _ _ _ _ _ c.loop-i-test.true (rw c.read-header.ensures at c.in_ok-extents.ensures.is) c.loop-i.invariant.same;
  low = c.in_ok-extents.ensures.low;
}

pub returns-clause-is : goal.returns-clause-is
returns-clause-is c = extents_done _ _ _ _ _ _ _ c.loop-i-test.false c.loop-i.invariant.same
