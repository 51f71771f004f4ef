use Rattle.wild_checker.proofs.Common.{◌≡◌, drop, max}
use Rattle.wild_checker.specs.Outline.{greatest_end}
use Rattle.wild_checker.proofs.outline.greatest_end.Given as goal

abbrev pub invariant-loop-symbol : goal.invariant-loop-symbol
invariant-loop-symbol l = max l.greatest (greatest_end (drop l.symbol-index l.symbols)) ≡ greatest_end l.symbols
