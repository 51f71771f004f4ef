use Rattle.std.proofs.Common.{arith}
use Rattle.wild_needs.specs.Tallies.{counted_in}
use Rattle.wild_needs.proofs.TallyLemmas.{entry_next}
use Rattle.wild_needs.proofs.tally.count_sorted.Goals as goal

pub loop-entry-preserved : goal.loop-entry-preserved
loop-entry-preserved c = record {
  rest = entry_next (counted_in c.args.kind c.args.layout.now) c.args.layout.now c.as_slice-entry-items.result.now c.loop-entry.entry-index record { group = 0; file = 0; section = 0 } c.loop-entry.sum c.count_sort_entry.result c.saturating_add-sum.result _
      c.loop-entry-test.true c.saturating_add-sum.ensures c.count_sort_entry.ensures c.loop-entry.invariant.rest;
  small = let e = c.saturating_add-sum.ensures in omega (arith, e);
}
