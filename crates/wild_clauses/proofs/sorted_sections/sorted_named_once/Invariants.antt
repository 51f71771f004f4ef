use Rattle.std.proofs.Common.{◌≡◌, drop}
use Rattle.wild_plan_rules.specs.Contents.{sorted_named_once}
use Rattle.wild_clauses.proofs.sorted_sections.sorted_named_once.Given as goal

abbrev pub invariant-loop-i : goal.invariant-loop-i
invariant-loop-i l = sorted_named_once l.layout l.i (drop l.i l.group-items) ≡ sorted_named_once l.layout 0 l.group-items
