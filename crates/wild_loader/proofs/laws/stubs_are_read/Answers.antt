use Rattle.wild_loader.proofs.StepLemmas.{stub-held, stub-of_value}
use Rattle.wild_loader.proofs.laws.stubs_are_read.Goals as goal

pub returns-clause-field : goal.returns-clause-field
returns-clause-field c = stub-held

pub returns-clause-value : goal.returns-clause-value
returns-clause-value c = stub-of_value
