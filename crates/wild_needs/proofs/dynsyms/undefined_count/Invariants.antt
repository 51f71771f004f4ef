use Rattle.std.proofs.Common.{◌≡◌, ◌+◌, ◌-◌, ◌^◌, ◌<◌, drop, min}
use Rattle.wild_types.specs.Lists.{total}
use Rattle.wild_needs.specs.UndefinedCounts.{undefined_of_group}
use Rattle.wild_needs.proofs.dynsyms.undefined_count.Given as goal

abbrev pub invariant-loop-group : goal.invariant-loop-group
invariant-loop-group l = record {
  rest : min (2 ^ 64 - 1) (l.count + total (undefined_of_group l.layout.symbols) (drop l.group-index l.group-items)) ≡ min (2 ^ 64 - 1) (total (undefined_of_group l.layout.symbols) l.group-items);
  small : l.count < 2 ^ 64;
}
