use Rattle.std.proofs.Common.{◌≡◌, drop}
use Rattle.wild_plan_rules.specs.Fronts.{front_shared}
use Rattle.wild_clauses.proofs.fronts.front_shared.Given as goal

abbrev pub invariant-loop-i : goal.invariant-loop-i
invariant-loop-i l = front_shared l.i (drop l.i l.merged) ≡ front_shared 0 l.merged
