use Rattle.wild_outlines.proofs.ClausesTested.{may_change}
use Rattle.wild_outlines.proofs.changes_are_tested.Goals as goal

pub returns : goal.returns
returns c = λ l c s f found at k. may_change l c s f found at k
