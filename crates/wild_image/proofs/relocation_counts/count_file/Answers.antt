use Rattle.wild_image.proofs.Common.{section_pairs}
use Rattle.wild_image.proofs.PairLemmas.{pairs_on}
use Rattle.wild_image.proofs.relocation_counts.count_file.Goals as goal

pub loop-section-preserved : goal.loop-section-preserved
loop-section-preserved c = pairs_on (section_pairs c.args.layout.now) c.args.join c.as_slice-section-items.result.now c.args.file.now.sections c.loop-section.section-index c.section-item.result c.args.pairs.now.items c.loop-section.pairs.items c.count_section.new.pairs.items c.as_slice-section-items.ensures c.loop-section-test.true c.section-item.is c.loop-section.invariant c.in_ok-count_section.ensures
