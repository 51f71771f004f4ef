use Rattle.wild_references.proofs.KeptDo.{kept_do}
use Rattle.wild_references.proofs.kept_instructions_do.Goals as goal

pub returns : goal.returns
returns c = kept_do c.other_bytes_are_kept.ensures.sequences c.other_bytes_are_kept.ensures.instructions
