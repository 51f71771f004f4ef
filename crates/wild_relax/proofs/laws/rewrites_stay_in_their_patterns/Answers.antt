use Rattle.wild_relax.proofs.SectionLemmas.{chosen_stand, chosen_are_whole, sections_are_linked}
use Rattle.wild_relax.proofs.laws.rewrites_stay_in_their_patterns.Goals as goal

pub returns-clause-stand : goal.returns-clause-stand
returns-clause-stand c = chosen_stand

pub returns-clause-whole : goal.returns-clause-whole
returns-clause-whole c = chosen_are_whole

pub returns-clause-linked : goal.returns-clause-linked
returns-clause-linked c = sections_are_linked c.overlays_keep_pieces.ensures.inside
