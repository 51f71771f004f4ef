use Rattle.std.proofs.Common.{◌≡◌, drop}
use Rattle.std.specs.List.{list_any}
use Rattle.wild_plan_rules.specs.Fronts.{has_bytes_in_part}
use Rattle.wild_clauses.proofs.fronts.any_has_bytes_in_part.Given as goal

abbrev pub invariant-loop-other : goal.invariant-loop-other
invariant-loop-other l = list_any (has_bytes_in_part l.part) (drop l.other-index l.merged) ≡ list_any (has_bytes_in_part l.part) l.merged
