use Rattle.wild_slots.proofs.BlockLemmas.{whole}
use Rattle.wild_slots.proofs.blocks_are_whole.Goals as goal

pub returns : goal.returns
returns c = λ l h small missing g m. whole l h small missing g m
