use Rattle.std.proofs.Common.{◌≡◌, ◌+◌, ◌≤◌, drop}
use Rattle.wild_needs.specs.UndefinedCounts.{count_in}
use Rattle.wild_needs.proofs.dynsyms.count_in.Given as goal

abbrev pub invariant-loop-symbol : goal.invariant-loop-symbol
invariant-loop-symbol l = record {
  rest : l.count + count_in l.role (drop l.symbol-index l.symbols) ≡ count_in l.role l.symbols;
  few : l.count ≤ l.symbol-index;
}
