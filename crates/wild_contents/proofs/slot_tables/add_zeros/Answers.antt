use Rattle.std.proofs.Common.{arith}
use Rattle.wild_contents.proofs.SlotLemmas.{word_next, one_zero}
use Rattle.wild_contents.proofs.slot_tables.add_zeros.Goals as goal

pub loop-preserved : goal.loop-preserved
loop-preserved c = word_next c.loop.bytes c.add_word.new.bytes _ 0 _ _ (one_zero _ _ (omega (arith, c.loop-test.true))) c.loop.invariant c.in_ok-add_word.ensures
