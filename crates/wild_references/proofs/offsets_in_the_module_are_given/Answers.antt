use Rattle.wild_references.proofs.TermKinds.{modules_give, modules_link}
use Rattle.wild_references.proofs.offsets_in_the_module_are_given.Goals as goal

pub returns-clause-gives : goal.returns-clause-gives
returns-clause-gives c = modules_give

pub returns-clause-linked : goal.returns-clause-linked
returns-clause-linked c = modules_link
