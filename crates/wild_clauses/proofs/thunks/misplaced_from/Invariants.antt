use Rattle.std.proofs.Common.{◌≡◌, ◌≤◌, ◌^◌, drop}
use Rattle.wild_plan_rules.specs.Thunks.{misplaced_from}
use Rattle.wild_clauses.proofs.thunks.misplaced_from.Given as goal

abbrev pub invariant-loop-i : goal.invariant-loop-i
invariant-loop-i l = record {
  rest : misplaced_from l.layout l.last l.start l.i (drop l.i l.group-items) ≡ misplaced_from l.layout l.last l.initial.start 0 l.group-items;
  small : l.start ≤ 2 ^ 65;
}
