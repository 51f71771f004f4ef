use Rattle.std.proofs.Common.{◌≡◌, drop}
use Rattle.std.specs.List.{list_any}
use Rattle.wild_plan_rules.specs.Thunks.{owns}
use Rattle.wild_clauses.proofs.thunks.own.Given as goal

abbrev pub invariant-loop-file : goal.invariant-loop-file
invariant-loop-file l = list_any (owns l.block) (drop l.file-index l.files) ≡ list_any (owns l.block) l.files
