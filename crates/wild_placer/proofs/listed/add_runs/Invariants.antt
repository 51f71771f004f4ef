use Rattle.wild_placer.proofs.Common.{◌≡◌, ℕ, take, nat_cmp, get, with_runs}
use Rattle.wild_placer.proofs.listed.add_runs.Given as goal

abbrev pub invariant-loop-i : goal.invariant-loop-i
invariant-loop-i l = (q : ℕ) → get nat_cmp l.starts q ≡ with_runs l.number (take l.i l.runs) (get nat_cmp l.initial.starts) q
