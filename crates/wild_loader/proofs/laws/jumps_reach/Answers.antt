use Rattle.wild_loader.proofs.StepLemmasAArch64.{jumps-reach}
use Rattle.wild_loader.proofs.laws.jumps_reach.Goals as goal

pub returns : goal.returns
returns c = jumps-reach
