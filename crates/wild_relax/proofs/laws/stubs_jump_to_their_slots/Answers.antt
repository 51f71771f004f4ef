use Rattle.wild_relax.proofs.StubLemmas.{stubs_jump}
use Rattle.wild_relax.proofs.laws.stubs_jump_to_their_slots.Goals as goal

pub returns : goal.returns
returns c = stubs_jump
