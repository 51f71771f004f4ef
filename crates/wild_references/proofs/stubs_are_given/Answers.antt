use Rattle.wild_references.proofs.TermKinds.{stubs_give, stubs_stand}
use Rattle.wild_references.proofs.stubs_are_given.Goals as goal

pub returns-clause-gives : goal.returns-clause-gives
returns-clause-gives c = stubs_give (record { value = c.stubs_are_read.ensures.value; plain = c.stubs_of_words_are_read.ensures.plain; marked = c.stubs_of_words_are_read.ensures.marked; meant = c.stubs_jump_to_their_slots.ensures; words = c.aarch64_code_reaches.ensures.stubs })

pub returns-clause-stand : goal.returns-clause-stand
returns-clause-stand c = stubs_stand (record { value = c.stubs_are_read.ensures.value; plain = c.stubs_of_words_are_read.ensures.plain; marked = c.stubs_of_words_are_read.ensures.marked; meant = c.stubs_jump_to_their_slots.ensures; words = c.aarch64_code_reaches.ensures.stubs })
