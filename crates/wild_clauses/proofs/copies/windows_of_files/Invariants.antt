use Rattle.std.proofs.Common.{◌≡◌, ◌≤◌, ◌^◌, drop}
use Rattle.std.specs.List.{flat_map}
use Rattle.wild_clauses.specs.Copies.{copied_of, windows_of}
use Rattle.wild_clauses.proofs.copies.windows_of_files.Given as goal

abbrev pub invariant-loop-file : goal.invariant-loop-file
invariant-loop-file l = record {
  rest : windows_of l.windows (flat_map (copied_of l.layout) (drop l.file-index l.files)) ≡ windows_of l.initial.windows (flat_map (copied_of l.layout) l.files);
  few : l.windows ≤ 2 ^ 48;
}
