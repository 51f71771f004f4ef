use Rattle.wild_names.proofs.ImageLemmas.{libraries_are_named}
use Rattle.wild_names.proofs.libraries_are_named.Goals as goal

pub returns : goal.returns
returns c = libraries_are_named c.tables_are_placed.ensures
