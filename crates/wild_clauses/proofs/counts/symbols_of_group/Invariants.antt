use Rattle.std.proofs.Common.{◌≡◌, ◌+◌, ◌-◌, ◌^◌, ◌<◌, drop, min}
use Rattle.wild_types.specs.Lists.{total}
use Rattle.wild_plan_rules.specs.Counts.{symbols_in}
use Rattle.wild_clauses.proofs.counts.symbols_of_group.Given as goal

abbrev pub invariant-loop-file : goal.invariant-loop-file
invariant-loop-file l = record {
  rest : min (2 ^ 64 - 1) (l.count + total symbols_in (drop l.file-index l.file-items)) ≡ min (2 ^ 64 - 1) (total symbols_in l.file-items);
  small : l.count < 2 ^ 64;
}
