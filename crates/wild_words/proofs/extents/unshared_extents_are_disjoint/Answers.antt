use Rattle.wild_words.proofs.ExtentLemmas.{all-apart, none-shared, apart-beside, beside-nothing, order-free}
use Rattle.wild_words.proofs.extents.unshared_extents_are_disjoint.Goals as goal

pub returns-clause-apart : goal.returns-clause-apart
returns-clause-apart c = all-apart

pub returns-clause-none : goal.returns-clause-none
returns-clause-none c = none-shared

pub returns-clause-beside : goal.returns-clause-beside
returns-clause-beside c = apart-beside

pub returns-clause-nothing : goal.returns-clause-nothing
returns-clause-nothing c = beside-nothing

pub returns-clause-order : goal.returns-clause-order
returns-clause-order c = order-free
