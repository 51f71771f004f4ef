use Rattle.std.proofs.Common.{◌≡◌, drop}
use Rattle.std.specs.List.{list_any}
use Rattle.wild_plan_rules.specs.Thunks.{is_used}
use Rattle.wild_clauses.proofs.thunks.has_thunks.Given as goal

abbrev pub invariant-loop-block : goal.invariant-loop-block
invariant-loop-block l = list_any is_used (drop l.block-index l.block-items) ≡ list_any is_used l.block-items
