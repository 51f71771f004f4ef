use Rattle.std.proofs.Common.{◌≡◌, ◌+◌, ◌-◌, ◌^◌, ◌<◌, drop, min}
use Rattle.wild_types.specs.Lists.{total}
use Rattle.wild_needs.specs.SectionSymbols.{singletons_of}
use Rattle.wild_needs.proofs.section_symbols.singletons_of_group.Given as goal

abbrev pub invariant-loop-file : goal.invariant-loop-file
invariant-loop-file l = record {
  rest : min (2 ^ 64 - 1) (l.count + total singletons_of (drop l.file-index l.file-items)) ≡ min (2 ^ 64 - 1) (total singletons_of l.file-items);
  small : l.count < 2 ^ 64;
}
