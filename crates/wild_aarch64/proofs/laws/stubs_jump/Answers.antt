use Rattle.wild_aarch64.proofs.StubLemmas.{stubs_jump, marked_stubs_jump, thunks_reach}
use Rattle.wild_aarch64.proofs.laws.stubs_jump.Goals as goal

pub returns-clause-plain : goal.returns-clause-plain
returns-clause-plain c = stubs_jump

pub returns-clause-marked : goal.returns-clause-marked
returns-clause-marked c = marked_stubs_jump

pub returns-clause-thunks : goal.returns-clause-thunks
returns-clause-thunks c = thunks_reach
