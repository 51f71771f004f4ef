use Rattle.wild_placer.proofs.Common.{take, refl, ◌∙◌, nat_cmp, get, listed_run}
use Rattle.wild_placer.proofs.ListedLemmas.{one_more_run, begins-whole, runs_as_before}
use Rattle.wild_placer.proofs.listed.add_runs.Goals as goal

pub loop-i-init : goal.loop-i-init
unfolding listed_run
loop-i-init c = λ q. refl

pub returns-then-not-add_run-clause-kept : goal.returns-then-not-add_run-clause-kept
returns-then-not-add_run-clause-kept c = λ e q.
    runs_as_before c.args.number (take c.loop-i.i c.args.runs.now) (get nat_cmp c.args.starts.now) (get nat_cmp c.add_run.new.starts) (get nat_cmp c.remove_runs.new.starts) (λ k t. c.requires k (begins-whole c.args.runs.now c.loop-i.i k t)) (λ k. c.add_run.ensures.kept c.if-not-add_run.true k ∙ c.loop-i.invariant k) c.remove_runs.ensures q

pub loop-i-preserved : goal.loop-i-preserved
loop-i-preserved c = λ q.
    one_more_run c.args.number c.args.runs.now c.loop-i.i c.index-runs-i.result (get nat_cmp c.args.starts.now) (get nat_cmp c.loop-i.starts) (get nat_cmp c.add_run.new.starts) c.loop-i-test.true c.index-runs-i.is c.loop-i.invariant (c.add_run.ensures.added c.if-not-add_run.false) q
