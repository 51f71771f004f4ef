use Rattle.wild_placer.proofs.Common.{ℕ, ◌+◌, sym, subst, Option, nat_cmp, get, IsLeastOfRuns}
use Rattle.wild_placer.proofs.SharedLemmas.{one_more, all_runs}
use Rattle.wild_placer.proofs.shared.first_shared.Goals as goal

pub loop-run-preserved : goal.loop-run-preserved
loop-run-preserved c =
    subst (λ (o : Option ℕ). IsLeastOfRuns (get nat_cmp c.args.starts.now) c.args.runs.now (c.loop-run.run-index + 1) o) (sym c.lesser-found.ensures)
    (one_more (get nat_cmp c.args.starts.now) c.args.runs.now c.loop-run.run-index c.run-item.result c.loop-run.found c.shared_with_run.result c.loop-run-test.true c.run-item.is c.loop-run.invariant c.shared_with_run.ensures)

pub returns : goal.returns
returns c = all_runs (get nat_cmp c.args.starts.now) c.args.runs.now c.loop-run.run-index c.loop-run.found c.loop-run-test.false c.loop-run.invariant
