use Rattle.wild_words.proofs.OrderLemmas.{overlay-moved, own_range}
use Rattle.wild_words.proofs.pieces.order_does_not_matter.Goals as goal

pub returns-clause-order : goal.returns-clause-order
returns-clause-order c = λ ps qs xs h moved. overlay-moved ps qs xs h moved

pub returns-clause-waits : goal.returns-clause-waits
returns-clause-waits c = λ p ps xs h. own_range p ps xs h
