use Rattle.std.proofs.Common.{◌≡◌, drop}
use Rattle.wild_clauses.specs.Positions.{section_in}
use Rattle.wild_clauses.proofs.listed_symbols.section_in.Given as goal

abbrev pub invariant-loop-group : goal.invariant-loop-group
invariant-loop-group l = section_in l.layout l.symbol l.place (drop l.group-index l.group-items) ≡ section_in l.layout l.symbol l.place l.group-items
