use Rattle.std.proofs.Common.{arith, rules, ◌∙◌}
use Rattle.wild_io.proofs.KnownBytes.{Appends-then, written_on}
use Rattle.wild_io.proofs.whole_text.write_whole.Goals as goal

pub loop-at-preserved : goal.loop-at-preserved
loop-at-preserved g c = record {
  within = search rules;
  written = let h = Appends-then _ _ _ _ _ c.loop-at.invariant.written c.in_ok-count.ensures.bytes in rw written_on at h;
  calm = c.in_ok-count.ensures.cause.calm (omega arith) ∙ c.loop-at.invariant.calm;
}
