use Rattle.std.proofs.Common.{◌≡◌, drop}
use Rattle.wild_plan_rules.specs.Segments.{dynamic_astray}
use Rattle.wild_types.specs.Parts.{part_with}
use Rattle.wild_clauses.proofs.entries.dynamic_astray.Given as goal
use Rattle.wild_types.specs.declared.part.Role.TheVariants as role

abbrev pub invariant-loop-i : goal.invariant-loop-i
invariant-loop-i l = dynamic_astray l.layout l.part l.i (drop l.i l.segments) ≡ dynamic_astray l.layout (part_with role.Dynamic l.layout.parts) 0 l.segments
