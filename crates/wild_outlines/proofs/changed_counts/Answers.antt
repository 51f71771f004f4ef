use Rattle.wild_outlines.proofs.ChangedCounts.{counts-changed}
use Rattle.wild_outlines.proofs.changed_counts.Goals as goal

pub returns : goal.returns
returns c = λ l c s found. counts-changed l c s found
