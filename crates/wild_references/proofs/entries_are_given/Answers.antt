use Rattle.wild_references.proofs.EntryKinds.{entries_give}
use Rattle.wild_references.proofs.entries_are_given.Goals as goal

pub returns : goal.returns
returns c = λ l w m s r z number symbol addend bs all p listed fits made reads. entries_give c.machines_have_their_facts.ensures.rows l w m s r z number symbol addend bs all p listed fits made reads
