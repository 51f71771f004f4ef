use Rattle.wild_image.proofs.Common.{true, [], refl, group_pairs}
use Rattle.wild_image.proofs.PairLemmas.{pairs_on}
use Rattle.wild_image.proofs.relocation_counts.relocation_counts_of_groups.Goals as goal

pub loop-group-preserved : goal.loop-group-preserved
loop-group-preserved c = pairs_on (group_pairs c.args.layout.now) true c.args.groups.now c.args.groups.now c.loop-group.group-index c.group-item.result [] c.loop-group.pairs.items c.count_group.new.pairs.items refl c.loop-group-test.true c.group-item.is c.loop-group.invariant c.in_ok-count_group.ensures
