use Rattle.wild_loader.proofs.StepLemmas.{slot_call-held}
use Rattle.wild_loader.proofs.laws.slot_calls_are_read.Goals as goal

pub returns : goal.returns
returns c = slot_call-held
