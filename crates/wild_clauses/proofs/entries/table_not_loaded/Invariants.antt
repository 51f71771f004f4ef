use Rattle.std.proofs.Common.{◌≡◌, drop}
use Rattle.wild_types.specs.Lists.{first_failing}
use Rattle.wild_plan_rules.specs.LoadedTables.{table_is_loaded}
use Rattle.wild_clauses.proofs.entries.table_not_loaded.Given as goal

abbrev pub invariant-loop-i : goal.invariant-loop-i
invariant-loop-i l = first_failing (table_is_loaded l.layout) l.i (drop l.i l.parts) ≡ first_failing (table_is_loaded l.layout) 0 l.parts
