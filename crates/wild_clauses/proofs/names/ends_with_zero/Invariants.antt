use Rattle.std.proofs.Common.{◌≡◌, drop}
use Rattle.wild_plan_rules.specs.ZeroFree.{ends_with_zero}
use Rattle.wild_clauses.proofs.names.ends_with_zero.Given as goal

abbrev pub invariant-loop-i : goal.invariant-loop-i
invariant-loop-i l = ends_with_zero (drop l.i l.path) ≡ ends_with_zero l.path
