use Rattle.wild_outlines.proofs.SharesLemmas.{shares_kept}
use Rattle.wild_outlines.proofs.shares_by_outline.Goals as goal

pub returns : goal.returns
returns c = λ l c s found n k. shares_kept l c s found n k
