use Rattle.wild_references.proofs.ThunkCode.{thunks_go}
use Rattle.wild_references.proofs.thunks_jump_to_targets.Goals as goal

pub returns : goal.returns
returns c = thunks_go (record { meant = c.aarch64_code_reaches.ensures.thunks; read = c.stubs_of_words_are_read.ensures.thunks })
