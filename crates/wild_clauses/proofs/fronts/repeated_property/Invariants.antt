use Rattle.std.proofs.Common.{◌≡◌, [], take, drop}
use Rattle.wild_plan_rules.specs.Fronts.{properties_differ}
use Rattle.wild_clauses.proofs.fronts.repeated_property.Given as goal

abbrev pub invariant-loop-i : goal.invariant-loop-i
invariant-loop-i l = properties_differ (take l.i l.properties) l.i (drop l.i l.properties) ≡ properties_differ [] 0 l.properties
