use Rattle.wild_relr.proofs.FitLemmas.{packed_fits}
use Rattle.wild_relr.proofs.laws.words_fit.Goals as goal

pub returns : goal.returns
returns c = λ ps h. packed_fits ps h
