use Rattle.wild_references.proofs.KeptBytes.{instructions_are_kept, sequences_are_kept, others_are_kept}
use Rattle.wild_references.proofs.other_bytes_are_kept.Goals as goal

pub returns-clause-instructions : goal.returns-clause-instructions
returns-clause-instructions c = instructions_are_kept c.rewrites_stay_in_their_patterns.ensures.whole c.aarch64_rows_apply_together.ensures.together

pub returns-clause-sequences : goal.returns-clause-sequences
returns-clause-sequences c = sequences_are_kept c.aarch64_rows_apply_together.ensures.together

pub returns-clause-others : goal.returns-clause-others
returns-clause-others c = others_are_kept c.rewritten_instructions_hold.ensures.stand
