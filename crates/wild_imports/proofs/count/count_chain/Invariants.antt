use Rattle.std.proofs.Common.{◌≡◌, ◌+◌, ◌-◌, ◌*◌, length}
use Rattle.wild_imports.specs.SymbolCount.{count_chain}
use Rattle.wild_imports.proofs.count.count_chain.Given as goal

abbrev pub invariant-loop-i : goal.invariant-loop-i
invariant-loop-i l = record {
  same : count_chain l.table (length l.table - l.i) l.place l.count ≡ count_chain l.table (length l.table) l.at l.first;
  count : l.count ≡ l.first + l.i;
  place : l.place ≡ l.at + 4 * l.i;
}
