use Rattle.std.proofs.Common.{◌≡◌, ◌+◌, drop}
use Rattle.wild_plan_rules.specs.LoadedTables.{entries_astray}
use Rattle.wild_clauses.proofs.entries.entries_astray.Given as goal

abbrev pub invariant-loop-i : goal.invariant-loop-i
invariant-loop-i l = entries_astray l.parts (l.i + 1) (drop l.i l.later) ≡ entries_astray l.parts 1 l.later
