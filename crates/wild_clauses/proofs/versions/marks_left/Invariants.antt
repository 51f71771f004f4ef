use Rattle.std.proofs.Common.{◌≡◌, drop}
use Rattle.wild_types.specs.Lists.{through}
use Rattle.wild_plan_rules.specs.VersionTables.{mark_step}
use Rattle.wild_clauses.proofs.versions.marks_left.Given as goal

abbrev pub invariant-loop-file : goal.invariant-loop-file
invariant-loop-file l = through mark_step l.left (drop l.file-index l.files) ≡ through mark_step l.initial.left l.files
