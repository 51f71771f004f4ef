use Rattle.wild_table_formats.proofs.LoadedLemmas.{places_loaded}
use Rattle.wild_table_formats.proofs.laws.places_are_loaded.Goals as goal

pub returns : goal.returns
returns c = places_loaded c.pieces_are_recorded.ensures c.loaders_agree.ensures
