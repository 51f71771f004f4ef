use Rattle.wild_space.proofs.OrderLemmas.{orders_short, orders_breadth_first, missing_missing, orders_reached}
use Rattle.wild_space.proofs.laws.orders_are_breadth_first.Goals as goal

pub returns-clause-order : goal.returns-clause-order
returns-clause-order c = orders_breadth_first

pub returns-clause-short : goal.returns-clause-short
returns-clause-short c = orders_short

pub returns-clause-missing : goal.returns-clause-missing
returns-clause-missing c = missing_missing

pub returns-clause-reached : goal.returns-clause-reached
returns-clause-reached c = orders_reached
