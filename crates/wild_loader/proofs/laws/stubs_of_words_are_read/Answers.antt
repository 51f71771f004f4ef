use Rattle.wild_loader.proofs.StepLemmasAArch64.{stubs-read, bti_stubs-read, thunks-read}
use Rattle.wild_loader.proofs.laws.stubs_of_words_are_read.Goals as goal

pub returns-clause-plain : goal.returns-clause-plain
returns-clause-plain c = stubs-read

pub returns-clause-marked : goal.returns-clause-marked
returns-clause-marked c = bti_stubs-read

pub returns-clause-thunks : goal.returns-clause-thunks
returns-clause-thunks c = thunks-read
