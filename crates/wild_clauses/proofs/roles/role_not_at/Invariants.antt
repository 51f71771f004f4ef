use Rattle.std.proofs.Common.{◌≡◌, drop}
use Rattle.wild_plan_rules.specs.Places.{role_not_at}
use Rattle.wild_clauses.proofs.roles.role_not_at.Given as goal

abbrev pub invariant-loop-i : goal.invariant-loop-i
invariant-loop-i l = role_not_at l.role l.offset l.i (drop l.i l.parts) ≡ role_not_at l.role l.offset 0 l.parts
