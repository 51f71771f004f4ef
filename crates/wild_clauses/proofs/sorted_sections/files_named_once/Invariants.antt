use Rattle.std.proofs.Common.{◌≡◌, drop}
use Rattle.wild_plan_rules.specs.Contents.{files_named_once}
use Rattle.wild_clauses.proofs.sorted_sections.files_named_once.Given as goal

abbrev pub invariant-loop-k : goal.invariant-loop-k
invariant-loop-k l = files_named_once l.layout l.group l.k (drop l.k l.files) ≡ files_named_once l.layout l.group 0 l.files
