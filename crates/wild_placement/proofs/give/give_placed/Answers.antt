use Rattle.wild_placement.specs.PlacedInputs.{placed_at}
use Rattle.wild_words.proofs.RunLemmas.{mapped_next}
use Rattle.wild_placement.proofs.give.give_placed.Goals as goal

pub loop-relocation-preserved : goal.loop-relocation-preserved
loop-relocation-preserved g c = mapped_next (placed_at c.args.target.now) c.args.relocations.now c.loop-relocation.relocation-index c.relocation-item.result c.placed_at.result c.loop-relocation-test.true c.relocation-item.is c.placed_at.ensures c.loop-relocation.invariant c.in_ok-take.ensures
