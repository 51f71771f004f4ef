use Rattle.std.proofs.Common.{◌≡◌, [], take, drop}
use Rattle.wild_plan_rules.specs.Places.{repeated_role}
use Rattle.wild_clauses.proofs.roles.repeated_role.Given as goal

abbrev pub invariant-loop-i : goal.invariant-loop-i
invariant-loop-i l = repeated_role (take l.i l.parts) l.i (drop l.i l.parts) ≡ repeated_role [] 0 l.parts
