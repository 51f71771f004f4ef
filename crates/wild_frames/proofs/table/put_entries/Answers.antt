use Rattle.wild_frames.proofs.TableLemmas.{put_more}
use Rattle.wild_frames.proofs.table.put_entries.Goals as goal

pub loop-i-preserved : goal.loop-i-preserved
loop-i-preserved c = put_more _ _ _ c.args.entries.now c.loop-i.i _ c.loop-i-test.true c.loop-i.invariant c.put_entry.ensures
