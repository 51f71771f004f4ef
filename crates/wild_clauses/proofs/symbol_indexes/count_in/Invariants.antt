use Rattle.std.proofs.Common.{◌≡◌, drop}
use Rattle.wild_clauses.specs.SymbolIndexes.{count_in}
use Rattle.wild_clauses.proofs.symbol_indexes.count_in.Given as goal

abbrev pub invariant-loop-file : goal.invariant-loop-file
invariant-loop-file l = count_in (drop l.file-index l.files) l.fn.symbol ≡ count_in l.files l.fn.symbol
