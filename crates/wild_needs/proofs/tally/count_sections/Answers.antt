use Rattle.std.proofs.Common.{arith}
use Rattle.wild_needs.proofs.TallyLemmas.{section_next}
use Rattle.wild_needs.proofs.tally.count_sections.Goals as goal

pub loop-section-preserved : goal.loop-section-preserved
loop-section-preserved c = record {
  rest = section_next c.args.kind c.args.layout.now c.args.file.now c.loop-section.at c.as_slice-section-items.result.now c.loop-section.section-index c.section-item.result c.loop-section.sum c.count_section.result
      c.saturating_add-sum.result c.next_frames_at-at.result _ c.loop-section-test.true c.section-item.is c.count_section.ensures c.saturating_add-sum.ensures c.next_frames_at-at.ensures c.loop-section.invariant.rest;
  small = let e = c.saturating_add-sum.ensures in omega (arith, e);
}
