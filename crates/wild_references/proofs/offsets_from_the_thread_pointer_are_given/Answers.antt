use Rattle.wild_references.proofs.TermKinds.{pointers_give, pointers_link}
use Rattle.wild_references.proofs.offsets_from_the_thread_pointer_are_given.Goals as goal

pub returns-clause-gives : goal.returns-clause-gives
returns-clause-gives c = pointers_give

pub returns-clause-linked : goal.returns-clause-linked
returns-clause-linked c = pointers_link
