use Rattle.wild_references.proofs.TermKinds.{table_gives}
use Rattle.wild_references.proofs.distances_of_the_table_are_given.Goals as goal

pub returns : goal.returns
returns c = table_gives
