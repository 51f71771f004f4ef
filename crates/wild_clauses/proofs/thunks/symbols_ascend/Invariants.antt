use Rattle.std.proofs.Common.{◌≡◌, ◌≤◌, ◌^◌, drop}
use Rattle.wild_plan_rules.specs.Thunks.{ascends_from}
use Rattle.wild_clauses.proofs.thunks.symbols_ascend.Given as goal

abbrev pub invariant-loop-thunk : goal.invariant-loop-thunk
invariant-loop-thunk l = record {
  rest : ascends_from l.low (drop l.thunk-index l.thunks) ≡ ascends_from 0 l.thunks;
  small : l.low ≤ 2 ^ 64;
}
