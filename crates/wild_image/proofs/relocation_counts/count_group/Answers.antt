use Rattle.wild_image.proofs.Common.{file_pairs}
use Rattle.wild_image.proofs.PairLemmas.{pairs_on}
use Rattle.wild_image.proofs.relocation_counts.count_group.Goals as goal

pub loop-file-preserved : goal.loop-file-preserved
loop-file-preserved c = pairs_on (file_pairs c.args.layout.now) c.args.join c.as_slice-file-items.result.now c.args.group.now.files c.loop-file.file-index c.file-item.result c.args.pairs.now.items c.loop-file.pairs.items c.count_file.new.pairs.items c.as_slice-file-items.ensures c.loop-file-test.true c.file-item.is c.loop-file.invariant c.in_ok-count_file.ensures
