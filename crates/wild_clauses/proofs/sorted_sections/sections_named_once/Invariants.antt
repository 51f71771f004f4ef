use Rattle.std.proofs.Common.{◌≡◌, drop}
use Rattle.wild_plan_rules.specs.Contents.{sections_named_once}
use Rattle.wild_clauses.proofs.sorted_sections.sections_named_once.Given as goal

abbrev pub invariant-loop-k : goal.invariant-loop-k
invariant-loop-k l = sections_named_once l.layout l.group l.file l.k (drop l.k l.sections) ≡ sections_named_once l.layout l.group l.file 0 l.sections
