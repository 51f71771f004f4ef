use Rattle.std.proofs.Common.{◌≡◌, ◌+◌, ◌-◌, ◌^◌, ◌<◌, drop, min}
use Rattle.wild_types.specs.Lists.{total}
use Rattle.wild_needs.specs.UndefinedCounts.{undefined_of}
use Rattle.wild_needs.proofs.dynsyms.undefined_of_group.Given as goal

abbrev pub invariant-loop-file : goal.invariant-loop-file
invariant-loop-file l = record {
  rest : min (2 ^ 64 - 1) (l.count + total (undefined_of l.layout.symbols) (drop l.file-index l.file-items)) ≡ min (2 ^ 64 - 1) (total (undefined_of l.layout.symbols) l.file-items);
  small : l.count < 2 ^ 64;
}
