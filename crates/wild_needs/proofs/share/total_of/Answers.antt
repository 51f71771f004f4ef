use Rattle.std.proofs.Common.{arith}
use Rattle.wild_needs.proofs.StandingShares.{file_next}
use Rattle.wild_needs.proofs.share.total_of.Goals as goal

pub loop-file-preserved : goal.loop-file-preserved
loop-file-preserved c = record {
  rest = file_next c.args.layout.now c.args.role c.loop-file.at c.as_slice-file-items.result.now c.loop-file.file-index c.file-item.result c.loop-file.sum c.share.result c.saturating_add-sum.result c.address_after_frames-at.result _
      c.loop-file-test.true c.file-item.is c.share.ensures c.saturating_add-sum.ensures c.address_after_frames-at.ensures c.loop-file.invariant.rest;
  small = let e = c.saturating_add-sum.ensures in omega (arith, e);
}
