use Rattle.wild_references.proofs.RewrittenFollowed.{rewritten_followed}
use Rattle.wild_references.proofs.rewritten_instructions_are_followed.Goals as goal

pub returns : goal.returns
returns c = rewritten_followed
