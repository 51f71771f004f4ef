use Rattle.wild_terms.proofs.load.+loaded_number.Given as goal

abbrev pub decreases-loaded_number : goal.decreases-loaded_number
decreases-loaded_number l = l.count
