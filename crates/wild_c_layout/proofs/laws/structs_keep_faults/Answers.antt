use Rattle.wild_c_layout.proofs.FaultLemmas.{error_again}
use Rattle.wild_c_layout.proofs.laws.structs_keep_faults.Goals as goal

pub returns : goal.returns
returns c = error_again
