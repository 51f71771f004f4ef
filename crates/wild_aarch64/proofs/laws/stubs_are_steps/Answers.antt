use Rattle.wild_aarch64.proofs.StubLemmas.{stubs_are_steps, marked_stubs_are_steps, thunks_are_steps}
use Rattle.wild_aarch64.proofs.laws.stubs_are_steps.Goals as goal

pub returns-clause-plain : goal.returns-clause-plain
returns-clause-plain c = stubs_are_steps

pub returns-clause-marked : goal.returns-clause-marked
returns-clause-marked c = marked_stubs_are_steps

pub returns-clause-thunks : goal.returns-clause-thunks
returns-clause-thunks c = thunks_are_steps
