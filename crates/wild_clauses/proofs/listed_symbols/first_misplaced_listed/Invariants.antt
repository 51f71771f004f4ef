use Rattle.std.proofs.Common.{◌≡◌, ◌+◌, drop}
use Rattle.wild_needs.specs.DynamicSymbols.{first_misplaced_listed, first_listed}
use Rattle.wild_clauses.proofs.listed_symbols.first_misplaced_listed.Given as goal

abbrev pub invariant-loop-i : goal.invariant-loop-i
invariant-loop-i l = first_misplaced_listed l.layout (l.first + l.i) l.i (drop l.i l.layout.dynsyms) ≡ first_misplaced_listed l.layout (first_listed l.layout) 0 l.layout.dynsyms
