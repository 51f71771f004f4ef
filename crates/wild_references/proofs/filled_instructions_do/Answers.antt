use Rattle.wild_references.proofs.Fills.{instructions_do}
use Rattle.wild_references.proofs.filled_instructions_do.Goals as goal

pub returns : goal.returns
returns c = instructions_do
