use Rattle.std.proofs.Common.{◌≡◌, drop}
use Rattle.wild_clauses.specs.Positions.{found_in}
use Rattle.wild_clauses.proofs.listed_symbols.found_in.Given as goal

abbrev pub invariant-loop-file : goal.invariant-loop-file
invariant-loop-file l = found_in l.layout (drop l.file-index l.files) l.symbol l.place ≡ found_in l.layout l.files l.symbol l.place
