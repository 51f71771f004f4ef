use Rattle.wild_loader.proofs.RelocatedLemmas.{relocated-applied}
use Rattle.wild_loader.proofs.laws.relocated_tables_are_applied.Goals as goal

pub returns : goal.returns
returns c = relocated-applied
