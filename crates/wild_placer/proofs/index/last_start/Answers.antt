use Rattle.wild_placer.proofs.IndexLemmas.{last_in_range}
use Rattle.wild_placer.proofs.index.last_start.Goals as goal

pub returns-in-Some-clause-some : goal.returns-in-Some-clause-some
returns-in-Some-clause-some c = last_in_range c.args.starts.now c.args.address c.in-Some.start.now c.in-Some.run'.now c.range.result c.next_back.new.self (c.range.ensures.in_range tt) c.in-Some.ensures.steps
