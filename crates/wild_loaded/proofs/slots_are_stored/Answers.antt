use Rattle.wild_loaded.proofs.SlotsHeld.{slots_held}
use Rattle.wild_loaded.proofs.slots_are_stored.Goals as goal

pub returns : goal.returns
returns c = slots_held (record {
  stand = c.slots_are_placed.ensures;
  words = c.each_word_is_placed.ensures;
  stubs = c.stubs_are_there.ensures;
  pair = c.pair_is_placed.ensures;
}) c.parts_are_stored.ensures
