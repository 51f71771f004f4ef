use Rattle.wild_bound.proofs.WorkedSpace.{conditions_met}
use Rattle.wild_bound.proofs.conditions_are_met.Goals as goal

pub returns : goal.returns
returns c = conditions_met
