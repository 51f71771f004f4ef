use Rattle.std.proofs.Common.{◌≡◌, drop}
use Rattle.wild_plan_rules.specs.VersionTables.{parent_astray}
use Rattle.wild_clauses.proofs.versions.parent_astray.Given as goal

abbrev pub invariant-loop-i : goal.invariant-loop-i
invariant-loop-i l = parent_astray l.i (drop l.i l.definitions) ≡ parent_astray 0 l.definitions
