use Rattle.wild_aarch64.proofs.RunLemmas.{hints_are_skipped, hints_are_lost}
use Rattle.wild_aarch64.proofs.laws.hints_do_nothing.Goals as goal

pub returns-clause-skipped : goal.returns-clause-skipped
returns-clause-skipped c = hints_are_skipped

pub returns-clause-lost : goal.returns-clause-lost
returns-clause-lost c = hints_are_lost
