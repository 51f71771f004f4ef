use Rattle.wild_loader.proofs.StepLemmas.{slot_jump-held}
use Rattle.wild_loader.proofs.laws.slot_jumps_are_read.Goals as goal

pub returns : goal.returns
returns c = slot_jump-held
