use Rattle.std.proofs.Common.{◌≡◌, drop}
use Rattle.wild_plan_rules.specs.MisplacedSections.{owner_in_parts}
use Rattle.wild_clauses.proofs.places.owner_in_parts.Given as goal

abbrev pub invariant-loop-k : goal.invariant-loop-k
invariant-loop-k l = owner_in_parts l.layout l.i l.group l.k (drop l.k l.layout.parts) ≡ owner_in_parts l.layout l.i l.group 0 l.layout.parts
