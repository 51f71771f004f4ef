use Rattle.wild_relr.proofs.PackingLemmas.{Records-after, Follows-after}
use Rattle.wild_relr.proofs.laws.each_place_is_recorded.Goals as goal

pub returns-clause-recorded : goal.returns-clause-recorded
returns-clause-recorded c = λ s p f h n. Records-after s p f h n

pub returns-clause-followed : goal.returns-clause-followed
returns-clause-followed c = λ s p f h. Follows-after s p f h
