use Rattle.std.proofs.Common.{◌≡◌, ◌+◌, ◌*◌, drop}
use Rattle.wild_plan_rules.specs.Thunks.{are_consecutive_from}
use Rattle.wild_clauses.proofs.thunks.are_consecutive_from.Given as goal

abbrev pub invariant-loop-thunk : goal.invariant-loop-thunk
invariant-loop-thunk l = record {
  rest : are_consecutive_from l.at (drop l.thunk-index l.thunks) ≡ are_consecutive_from l.initial.at l.thunks;
  small : l.at ≡ l.initial.at + 12 * l.thunk-index;
}
