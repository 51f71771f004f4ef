use Rattle.std.proofs.Common.{refl}
use Rattle.wild_placement.proofs.WordLemmas.{word_more}
use Rattle.wild_placement.proofs.words.reversed_word_bytes.Goals as goal

pub loop-i-preserved : goal.loop-i-preserved
loop-i-preserved c = word_more c.args.bytes.now c.loop-i.reversed_section.items c.extend_from_slice.new.self.items c.loop-i.i _ c.loop-i.invariant refl c.in_ok-extend_from_slice.ensures.items
