use Rattle.wild_frames.proofs.TableLemmas.{refuses_at}
use Rattle.wild_frames.proofs.table.entries_of.Goals as goal

pub returns-in-Err-clause-faults : goal.returns-in-Err-clause-faults
returns-in-Err-clause-faults c = refuses_at c.args.header c.args.fdes.now c.loop-fde.fde-index _ c.in-Err.error c.loop-fde-test.true c.loop-fde.invariant.none c.in-Err.ensures.faults
