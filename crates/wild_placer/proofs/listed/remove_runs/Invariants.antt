use Rattle.wild_placer.proofs.Common.{◌≡◌, ℕ, take, nat_cmp, get, without_runs}
use Rattle.wild_placer.proofs.listed.remove_runs.Given as goal

abbrev pub invariant-loop-run : goal.invariant-loop-run
invariant-loop-run l = (q : ℕ) → get nat_cmp l.starts q ≡ without_runs (take l.run-index l.runs) (get nat_cmp l.initial.starts) q
