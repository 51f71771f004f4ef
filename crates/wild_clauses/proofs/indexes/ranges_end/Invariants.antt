use Rattle.std.proofs.Common.{◌≡◌, drop}
use Rattle.wild_plan_rules.specs.Indexes.{range_follows}
use Rattle.wild_types.specs.Lists.{through}
use Rattle.wild_clauses.proofs.indexes.ranges_end.Given as goal

abbrev pub invariant-loop-file : goal.invariant-loop-file
invariant-loop-file l = through range_follows l.end (drop l.file-index l.files) ≡ through range_follows l.initial.end l.files
