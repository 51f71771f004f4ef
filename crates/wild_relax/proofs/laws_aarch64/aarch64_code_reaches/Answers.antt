use Rattle.wild_relax.proofs.AArch64Lemmas.{stubs_jump, thunks_reach}
use Rattle.wild_relax.proofs.laws_aarch64.aarch64_code_reaches.Goals as goal

pub returns-clause-stubs : goal.returns-clause-stubs
returns-clause-stubs c = stubs_jump

pub returns-clause-thunks : goal.returns-clause-thunks
returns-clause-thunks c = thunks_reach
