use Rattle.wild_c_layout.proofs.FaultLemmas.{role_at_its_index}
use Rattle.wild_c_layout.proofs.laws.roles_have_their_indexes.Goals as goal

pub returns : goal.returns
returns c = role_at_its_index
