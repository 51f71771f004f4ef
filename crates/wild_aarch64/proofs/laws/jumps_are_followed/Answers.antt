use Rattle.wild_aarch64.proofs.RunLemmas.{jumps_are_followed}
use Rattle.wild_aarch64.proofs.laws.jumps_are_followed.Goals as goal

pub returns : goal.returns
returns c = jumps_are_followed
