use Rattle.wild_loaded.proofs.StillBytes.{file_bytes_stored}
use Rattle.wild_loaded.proofs.file_bytes_are_stored.Goals as goal

pub returns : goal.returns
returns c = file_bytes_stored c.bytes_are_loaded.ensures.bytes
