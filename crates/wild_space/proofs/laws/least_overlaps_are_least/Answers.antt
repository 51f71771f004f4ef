use Rattle.wild_space.proofs.CountLemmas.{least_least, none_in_two}
use Rattle.wild_space.proofs.laws.least_overlaps_are_least.Goals as goal

pub returns-clause-least : goal.returns-clause-least
returns-clause-least c = least_least

pub returns-clause-none : goal.returns-clause-none
returns-clause-none c = none_in_two
