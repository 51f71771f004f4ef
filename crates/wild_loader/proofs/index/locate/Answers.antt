use Rattle.std.proofs.Common.{rules}
use Rattle.wild_loader.proofs.IndexLemmas.{starts_and_indices-more, starts_and_indices-skip}
use Rattle.wild_loader.proofs.index.locate.Goals as goal
use Rattle.wild_loader.proofs.index.locate.Goals.{then-len-gt0+in_ok-push, else-len-gt0}

pub loop-i-preserved : goal.loop-i-preserved
loop-i-preserved c =
    elim c.if-len-gt0.branch [
      | then-len-gt0+in_ok-push w ↦ starts_and_indices-more c.args.runs.now c.loop-i.i c.index-runs-i.result c.loop-i.index.items c.if-len-gt0.index.items _ c.loop-i-test.true c.index-runs-i.is (search rules) (search rules) c.loop-i.invariant
      | else-len-gt0 w ↦ rw w.index-is (starts_and_indices-skip c.args.runs.now c.loop-i.i c.index-runs-i.result c.loop-i.index.items _ c.loop-i-test.true c.index-runs-i.is (search rules) c.loop-i.invariant)
    ]
