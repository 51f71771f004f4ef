use Rattle.wild_relr.proofs.PackedLemmas.{flat-packed}
use Rattle.wild_relr.proofs.laws.relr_slot_is_a_run.Goals as goal

pub returns : goal.returns
returns c = λ s p. flat-packed s p
