use Rattle.wild_crew.proofs.crew.+crew_alone.Given as goal

abbrev pub decreases-crew_alone : goal.decreases-crew_alone
decreases-crew_alone g l = l.count
