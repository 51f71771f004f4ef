use Rattle.std.proofs.Common.{◌≡◌, drop}
use Rattle.wild_clauses.specs.SymbolIndexes.{ranges_lie}
use Rattle.wild_clauses.proofs.symbol_indexes.ranges_lie.Given as goal

abbrev pub invariant-loop-file : goal.invariant-loop-file
invariant-loop-file l = ranges_lie l.count l.end (drop l.file-index l.files) ≡ ranges_lie l.count l.initial.end l.files
