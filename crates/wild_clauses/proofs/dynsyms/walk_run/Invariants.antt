use Rattle.std.proofs.Common.{◌≡◌, ◌+◌, ◌≤◌, drop}
use Rattle.wild_clauses.specs.Positions.{run_walk}
use Rattle.wild_clauses.proofs.dynsyms.walk_run.Given as goal

abbrev pub invariant-loop-i : goal.invariant-loop-i
invariant-loop-i l = record {
  rest : run_walk l.layout.dynsyms l.undefined l.role (l.first + l.i) l.count (drop l.i l.symbols) ≡ run_walk l.layout.dynsyms l.undefined l.role l.first l.initial.count l.symbols;
  few : l.count ≤ l.initial.count + l.i;
}
