use Rattle.wild_references.proofs.TermKinds.{slots_give}
use Rattle.wild_references.proofs.slots_are_given.Goals as goal

pub returns : goal.returns
returns c = slots_give (record { value = c.stubs_are_read.ensures.value; plain = c.stubs_of_words_are_read.ensures.plain; marked = c.stubs_of_words_are_read.ensures.marked; meant = c.stubs_jump_to_their_slots.ensures; words = c.aarch64_code_reaches.ensures.stubs })
