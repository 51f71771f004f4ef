use Rattle.std.proofs.Common.{◌≡◌, ◌+◌, ◌-◌, ◌^◌, ◌<◌, drop, min}
use Rattle.wild_types.specs.Lists.{total}
use Rattle.wild_needs.specs.SectionSymbols.{singletons_of_group}
use Rattle.wild_needs.proofs.section_symbols.singleton_count.Given as goal

abbrev pub invariant-loop-group : goal.invariant-loop-group
invariant-loop-group l = record {
  rest : min (2 ^ 64 - 1) (l.count + total singletons_of_group (drop l.group-index l.group-items)) ≡ min (2 ^ 64 - 1) (total singletons_of_group l.group-items);
  small : l.count < 2 ^ 64;
}
