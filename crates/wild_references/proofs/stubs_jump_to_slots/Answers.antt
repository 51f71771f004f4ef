use Rattle.wild_references.proofs.EachStub.{each_stub, stubs_of_symbols}
use Rattle.wild_references.proofs.stubs_jump_to_slots.Goals as goal

pub returns-clause-jump : goal.returns-clause-jump
returns-clause-jump c = each_stub (record { value = c.stubs_are_read.ensures.value; plain = c.stubs_of_words_are_read.ensures.plain; marked = c.stubs_of_words_are_read.ensures.marked; meant = c.stubs_jump_to_their_slots.ensures; words = c.aarch64_code_reaches.ensures.stubs })

pub returns-clause-symbols : goal.returns-clause-symbols
returns-clause-symbols c = stubs_of_symbols (record { value = c.stubs_are_read.ensures.value; plain = c.stubs_of_words_are_read.ensures.plain; marked = c.stubs_of_words_are_read.ensures.marked; meant = c.stubs_jump_to_their_slots.ensures; words = c.aarch64_code_reaches.ensures.stubs })
