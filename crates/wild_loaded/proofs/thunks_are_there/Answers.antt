use Rattle.wild_loaded.proofs.ThunksHeld.{thunks_there}
use Rattle.wild_loaded.proofs.thunks_are_there.Goals as goal

pub returns : goal.returns
returns c = thunks_there c.bytes_are_loaded.ensures.bytes
