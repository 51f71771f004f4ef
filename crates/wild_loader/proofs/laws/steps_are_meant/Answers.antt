use Rattle.wild_loader.proofs.MeantLemmas.{steps-meant}
use Rattle.wild_loader.proofs.LongestLemmas.{steps-longest}
use Rattle.wild_loader.proofs.laws.steps_are_meant.Goals as goal

pub returns-clause-meant : goal.returns-clause-meant
returns-clause-meant c = steps-meant

pub returns-clause-longest : goal.returns-clause-longest
returns-clause-longest c = steps-longest
