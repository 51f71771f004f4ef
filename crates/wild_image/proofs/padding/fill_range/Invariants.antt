use Rattle.wild_image.proofs.Common.{◌≡◌, ◌≤◌, ◌-◌}
use Rattle.wild_layout.specs.Image.{run}
use Rattle.wild_image.specs.Padding.{free, Fills}
use Rattle.wild_image.proofs.padding.fill_range.Given as goal

abbrev pub invariant-loop-start : goal.invariant-loop-start
invariant-loop-start l = record {
  from : l.at ≤ l.start;
  to : l.start ≤ l.end;
  fills : Fills l.bytes l.at l.end l.start l.fn.taken l.taken l.fn.out l.out;
  count : l.run ≡ run (free l.fn.taken l.at l.end) l.start;
}

abbrev pub decreases-loop-start : goal.decreases-loop-start
decreases-loop-start l = l.end - l.start

abbrev pub invariant-loop-k : goal.invariant-loop-k
invariant-loop-k l = record {
  fills : Fills l.bytes l.at l.end l.k l.fn.taken l.taken l.fn.out l.out;
  count : l.run ≡ run (free l.fn.taken l.at l.end) l.k;
}
