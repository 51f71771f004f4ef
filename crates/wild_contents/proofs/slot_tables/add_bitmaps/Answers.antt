use Rattle.std.proofs.Common.{arith}
use Rattle.wild_contents.proofs.SlotLemmas.{word_next, words_end, bitmaps_next, bitmaps_none}
use Rattle.wild_contents.proofs.slot_tables.add_bitmaps.Goals as goal

pub loop-rest-preserved : goal.loop-rest-preserved
loop-rest-preserved c =
    word_next c.loop-rest.bytes c.add_word.new.bytes _ c.full_bitmap.result _ _ (rw (c.full_bitmap.ensures, c.saturating_sub-rest.ensures) (bitmaps_next c.loop-rest.rest (omega (arith, c.loop-rest-test.true)))) c.loop-rest.invariant c.in_ok-add_word.ensures

pub returns : goal.returns
returns c = words_end c.loop-rest.bytes _ _ (bitmaps_none c.loop-rest.rest (omega (arith, c.loop-rest-test.false))) c.loop-rest.invariant
