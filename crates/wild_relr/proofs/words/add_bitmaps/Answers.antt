use Rattle.std.proofs.Common.{arith, ◌≡◌, ◌∙◌, ◌+◌}
use Rattle.wild_relr.proofs.WriterLemmas.{bitmaps_more, bitmaps_done}
use Rattle.wild_relr.proofs.words.add_bitmaps.Goals as goal

pub loop-i-preserved : goal.loop-i-preserved
loop-i-preserved c = record {
  words = rw c.saturating_sub-rest.ensures (bitmaps_more _ _ _ _ _ _ _ _ c.loop-i-test.true c.add_word.ensures.words c.full_bitmap.ensures c.loop-i.invariant.words);
  spelled = λ h. let z : c.args.count + (c.loop-i.i + 1) ≡ c.args.count + c.loop-i.i + 1 = omega arith in rw z (c.add_word.ensures.spelled (c.loop-i.invariant.spelled h));
  rest = λ k l. c.add_word.ensures.rest k (omega arith) ∙ c.loop-i.invariant.rest k (omega arith);
}

pub returns-clause-words : goal.returns-clause-words
returns-clause-words c =
    let e : c.loop-i.i ≡ c.args.words = omega arith in
    bitmaps_done _ _ _ _ _ _ e c.loop-i.invariant.words
