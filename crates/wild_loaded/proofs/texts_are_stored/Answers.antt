use Rattle.wild_loaded.proofs.TextsHeld.{texts_stored}
use Rattle.wild_loaded.proofs.texts_are_stored.Goals as goal

pub returns : goal.returns
returns c = texts_stored c.bytes_are_loaded.ensures.bytes c.tables_are_placed.ensures
