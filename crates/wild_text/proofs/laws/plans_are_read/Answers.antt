use Rattle.wild_text.proofs.PlanLemmas.{is_read}
use Rattle.wild_text.proofs.RequestLemmas.{relink_read, place_read}
use Rattle.wild_text.proofs.laws.plans_are_read.Goals as goal

pub returns-clause-plans : goal.returns-clause-plans
returns-clause-plans c = is_read

pub returns-clause-relink : goal.returns-clause-relink
returns-clause-relink c = relink_read

pub returns-clause-place : goal.returns-clause-place
returns-clause-place c = place_read
