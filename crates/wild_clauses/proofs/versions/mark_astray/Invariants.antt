use Rattle.std.proofs.Common.{◌≡◌, drop}
use Rattle.wild_plan_rules.specs.VersionTables.{mark_astray}
use Rattle.wild_clauses.proofs.versions.mark_astray.Given as goal

abbrev pub invariant-loop-i : goal.invariant-loop-i
invariant-loop-i l = mark_astray l.left l.i (drop l.i l.groups) ≡ mark_astray l.count 0 l.groups
