use Rattle.wild_relr.proofs.PackedLemmas.{after_places-rising}
use Rattle.wild_relr.proofs.laws.rising_runs_keep_order.Goals as goal

pub returns : goal.returns
returns c = λ s ps f h. after_places-rising ps s f h
