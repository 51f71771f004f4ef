use Rattle.wild_loader.proofs.StepLemmas.{jump-held}
use Rattle.wild_loader.proofs.laws.jumps_are_read.Goals as goal

pub returns : goal.returns
returns c = jump-held
