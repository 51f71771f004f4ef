use Rattle.std.proofs.Common.{◌≡◌, ◌≤◌, drop, length}
use Rattle.wild_clauses.specs.Positions.{groups_walk}
use Rattle.wild_clauses.proofs.dynsyms.walk_groups.Given as goal

abbrev pub invariant-loop-group : goal.invariant-loop-group
invariant-loop-group l = record {
  rest : groups_walk l.layout l.undefined l.at (drop l.group-index l.group-items) ≡ groups_walk l.layout l.undefined (0, 0) l.group-items;
  few : l.at.1 ≤ l.at.0;
  within : l.at.0 ≤ length l.layout.symbols;
}
