use Rattle.std.proofs.Common.{◌≡◌, drop}
use Rattle.std.specs.List.{list_any}
use Rattle.wild_plan_rules.specs.LoadedTables.{carries_table}
use Rattle.wild_clauses.proofs.entries.is_carried.Given as goal

abbrev pub invariant-loop-segment : goal.invariant-loop-segment
invariant-loop-segment l = list_any (carries_table l.layout l.part l.rest) (drop l.segment-index l.layout.segments) ≡ list_any (carries_table l.layout l.part l.rest) l.layout.segments
