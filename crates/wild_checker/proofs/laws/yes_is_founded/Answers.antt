use Rattle.wild_checker.proofs.Soundness.{founded}
use Rattle.wild_checker.proofs.laws.yes_is_founded.Goals as goal

pub returns : goal.returns
returns c = founded c.terms_are_loaded.ensures c.worlds_are_outlined.ensures (record { rows = c.plain_items_are_read.ensures.rows; widths = c.widths_of_fields.ensures; instructions = c.plain_items_are_read.ensures.instructions; stubs = record { value = c.stubs_are_read.ensures.value; plain = c.stubs_of_words_are_read.ensures.plain; marked = c.stubs_of_words_are_read.ensures.marked; meant = c.stubs_jump_to_their_slots.ensures; words = c.aarch64_code_reaches.ensures.stubs } }) c.plain_items_are_read.ensures.values
