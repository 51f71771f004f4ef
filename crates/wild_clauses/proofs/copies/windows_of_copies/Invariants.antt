use Rattle.std.proofs.Common.{◌≡◌, ◌≤◌, ◌^◌, map, drop}
use Rattle.wild_types.specs.Lookups.{canonical}
use Rattle.wild_clauses.specs.Copies.{windows_of}
use Rattle.wild_clauses.proofs.copies.windows_of_copies.Given as goal

abbrev pub invariant-loop-copy : goal.invariant-loop-copy
invariant-loop-copy l = record {
  rest : windows_of l.windows (map (canonical l.layout) (drop l.copy-index l.copies)) ≡ windows_of l.initial.windows (map (canonical l.layout) l.copies);
  few : l.windows ≤ 2 ^ 48;
}
