use Rattle.std.proofs.Common.{◌≡◌, drop}
use Rattle.wild_clauses.specs.SymbolIndexes.{files_walk}
use Rattle.wild_clauses.proofs.symbol_indexes.walk_files.Given as goal

abbrev pub invariant-loop-file : goal.invariant-loop-file
invariant-loop-file l = files_walk l.layout l.next (drop l.file-index l.files) ≡ files_walk l.layout l.initial.next l.files
