use Rattle.wild_relax.proofs.RewriteLemmas.{rows_have_types}
use Rattle.wild_relax.proofs.laws.rewrites_write_relocation_types.Goals as goal

pub returns : goal.returns
returns c = rows_have_types
