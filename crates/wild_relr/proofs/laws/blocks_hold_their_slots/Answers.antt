use Rattle.wild_relr.proofs.BlockLemmas.{places-block, block-no_slots, block-no_base}
use Rattle.wild_relr.proofs.laws.blocks_hold_their_slots.Goals as goal

pub returns-clause-held : goal.returns-clause-held
returns-clause-held c = λ s base n h z. places-block s.words base n h z

pub returns-clause-none : goal.returns-clause-none
returns-clause-none c = λ n. (block-no_slots n, block-no_base n)
