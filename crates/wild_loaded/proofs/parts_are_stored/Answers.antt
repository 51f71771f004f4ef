use Rattle.wild_loaded.proofs.PartsHeld.{part_stored}
use Rattle.wild_loaded.proofs.parts_are_stored.Goals as goal

pub returns : goal.returns
returns c = part_stored c.bytes_are_loaded.ensures.bytes c.tables_are_placed.ensures
