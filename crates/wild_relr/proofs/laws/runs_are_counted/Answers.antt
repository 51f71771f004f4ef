use Rattle.wild_relr.proofs.PackedLemmas.{length-packed}
use Rattle.wild_relr.proofs.laws.runs_are_counted.Goals as goal

pub returns : goal.returns
returns c = λ ps. length-packed ps
