use Rattle.wild_placement.specs.PlacedSections.{moved_relocation}
use Rattle.wild_words.proofs.RunLemmas.{mapped_next}
use Rattle.wild_placement.proofs.give.give_moved.Goals as goal

pub loop-relocation-preserved : goal.loop-relocation-preserved
loop-relocation-preserved g c = mapped_next (moved_relocation c.args.entry.now) c.args.relocations.now c.loop-relocation.relocation-index c.relocation-item.result c.moved_relocation.result c.loop-relocation-test.true c.relocation-item.is c.moved_relocation.ensures c.loop-relocation.invariant c.in_ok-take.ensures
