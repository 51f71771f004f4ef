use Rattle.std.proofs.Common.{◌≡◌, ◌≤◌, drop, length}
use Rattle.wild_clauses.specs.Positions.{files_walk}
use Rattle.wild_clauses.proofs.dynsyms.walk_files.Given as goal

abbrev pub invariant-loop-file : goal.invariant-loop-file
invariant-loop-file l = record {
  rest : files_walk l.layout l.undefined l.at (drop l.file-index l.files) ≡ files_walk l.layout l.undefined l.initial.at l.files;
  few : l.at.1 ≤ l.at.0;
  within : l.at.0 ≤ length l.layout.symbols;
}
