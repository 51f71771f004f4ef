use Rattle.std.proofs.Common.{◌≡◌, ◌≤◌, ◌^◌, drop}
use Rattle.std.specs.List.{flat_map}
use Rattle.wild_types.specs.FileSymbols.{copied_definitions}
use Rattle.wild_clauses.specs.Copies.{windows_of}
use Rattle.wild_clauses.proofs.copies.windows_of_groups.Given as goal

abbrev pub invariant-loop-group : goal.invariant-loop-group
invariant-loop-group l = record {
  rest : windows_of l.windows (flat_map (copied_definitions l.layout) (drop l.group-index l.groups)) ≡ windows_of 0 (flat_map (copied_definitions l.layout) l.groups);
  few : l.windows ≤ 2 ^ 48;
}
