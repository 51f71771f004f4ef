use Rattle.wild_names.proofs.LookUps.{none_found}
use Rattle.wild_names.proofs.names_without_a_table.Goals as goal

pub returns : goal.returns
returns c = none_found c.tables_are_read.ensures.images
