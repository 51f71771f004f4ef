use Rattle.wild_outlines.proofs.ChangedItems.{FoundSection-from_found}
use Rattle.wild_outlines.proofs.ClausesChanged.{relocation_count-changed}
use Rattle.wild_outlines.proofs.changed_total.Goals as goal

pub returns : goal.returns
returns c = λ l c s found. relocation_count-changed l c s (FoundSection-from_found l c s found)
