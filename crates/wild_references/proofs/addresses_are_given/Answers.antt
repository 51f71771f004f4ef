use Rattle.wild_references.proofs.AddressKinds.{gives_moved, links_moved}
use Rattle.wild_references.proofs.addresses_are_given.Goals as goal

pub returns-clause-gives : goal.returns-clause-gives
returns-clause-gives c = λ l w m s r v packed all p listed fits made f. gives_moved (record { value = c.stubs_are_read.ensures.value; plain = c.stubs_of_words_are_read.ensures.plain; marked = c.stubs_of_words_are_read.ensures.marked; meant = c.stubs_jump_to_their_slots.ensures; words = c.aarch64_code_reaches.ensures.stubs }) l w m s r v packed all p fits made f

pub returns-clause-linked : goal.returns-clause-linked
returns-clause-linked c = λ l w m s r v i packed all p listed made named alone. links_moved l w m s r v i packed p made named alone
