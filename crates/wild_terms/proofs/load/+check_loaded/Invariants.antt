use Rattle.wild_terms.proofs.load.+check_loaded.Given as goal

abbrev pub decreases-check_loaded : goal.decreases-check_loaded
decreases-check_loaded l = l.count
