use Rattle.std.proofs.Common.{◌≡◌, ◌+◌, ◌-◌, ◌^◌, ◌<◌, drop, min}
use Rattle.wild_types.specs.Lists.{total}
use Rattle.wild_plan_rules.specs.Counts.{symbols_of}
use Rattle.wild_clauses.proofs.counts.symbols_of_groups.Given as goal

abbrev pub invariant-loop-group : goal.invariant-loop-group
invariant-loop-group l = record {
  rest : min (2 ^ 64 - 1) (l.count + total symbols_of (drop l.group-index l.groups)) ≡ min (2 ^ 64 - 1) (total symbols_of l.groups);
  small : l.count < 2 ^ 64;
}
