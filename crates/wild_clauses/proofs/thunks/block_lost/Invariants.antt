use Rattle.std.proofs.Common.{◌≡◌, drop}
use Rattle.wild_plan_rules.specs.Thunks.{block_lost}
use Rattle.wild_clauses.proofs.thunks.block_lost.Given as goal

abbrev pub invariant-loop-i : goal.invariant-loop-i
invariant-loop-i l = block_lost l.layout l.i (drop l.i l.block-items) ≡ block_lost l.layout 0 l.block-items
