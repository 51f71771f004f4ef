use Rattle.wild_symbols.proofs.RoomLemmas.{prefix_is_the_writers}
use Rattle.wild_symbols.proofs.laws.prefixes_are_the_writers.Goals as goal

pub returns : goal.returns
returns c = prefix_is_the_writers
