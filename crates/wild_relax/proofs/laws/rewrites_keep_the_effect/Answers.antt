use Rattle.wild_relax.proofs.RowLemmas.{rows_keep}
use Rattle.wild_relax.proofs.laws.rewrites_keep_the_effect.Goals as goal

pub returns : goal.returns
returns c = rows_keep
