use Rattle.wild_terms.proofs.memory.TermMemory.+number.Given as goal

abbrev pub decreases-number : goal.decreases-number
decreases-number l = l.count
