use Rattle.std.proofs.Common.{◌≡◌, drop}
use Rattle.std.specs.List.{list_any}
use Rattle.wild_plan_rules.specs.Fronts.{has_type}
use Rattle.wild_clauses.proofs.fronts.any_has_type.Given as goal

abbrev pub invariant-loop-property : goal.invariant-loop-property
invariant-loop-property l = list_any (has_type l.ptype) (drop l.property-index l.properties) ≡ list_any (has_type l.ptype) l.properties
