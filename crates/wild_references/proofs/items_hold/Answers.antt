use Rattle.wild_references.proofs.Items.{items}
use Rattle.wild_references.proofs.items_hold.Goals as goal

pub returns : goal.returns
returns c = items c.rewritten_instructions_hold.ensures.rewritten c.rewritten_instructions_hold.ensures.partners c.rewritten_instructions_are_followed.ensures c.other_bytes_are_kept.ensures.instructions c.kept_instructions_do.ensures c.other_bytes_are_kept.ensures.others
