use Rattle.std.proofs.Common.{◌≡◌, ℕ, ◌<◌, get_or}
use Rattle.wild_plan_rules.specs.Contents.{addresses}
use Rattle.wild_clauses.proofs.places.first_starts.Given as goal

abbrev pub invariant-loop-k : goal.invariant-loop-k
invariant-loop-k l = (j : ℕ) → j < l.k → get_or l.starts j 0 ≡ get_or (addresses l.parts) j 0
