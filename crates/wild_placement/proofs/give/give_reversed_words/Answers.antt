use Rattle.wild_placement.specs.ReversedWords.{reversed_offset}
use Rattle.wild_words.proofs.RunLemmas.{mapped_next}
use Rattle.wild_placement.proofs.give.give_reversed_words.Goals as goal

pub loop-relocation-preserved : goal.loop-relocation-preserved
loop-relocation-preserved g c = mapped_next (reversed_offset c.args.size) c.args.relocations.now c.loop-relocation.relocation-index c.relocation-item.result c.reversed_offset.result c.loop-relocation-test.true c.relocation-item.is c.reversed_offset.ensures c.loop-relocation.invariant c.in_ok-take.ensures
