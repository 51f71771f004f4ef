use Rattle.wild_loader.proofs.FilledLemmas.{tables-filled}
use Rattle.wild_loader.proofs.laws.tables_are_filled.Goals as goal

pub returns : goal.returns
returns c = tables-filled
