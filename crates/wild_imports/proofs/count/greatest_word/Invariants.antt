use Rattle.std.proofs.Common.{◌≡◌, ◌+◌, ◌-◌, ◌*◌}
use Rattle.wild_imports.specs.SymbolCount.{greatest_word}
use Rattle.wild_imports.proofs.count.greatest_word.Given as goal

abbrev pub invariant-loop-i : goal.invariant-loop-i
invariant-loop-i l = greatest_word l.table (l.count - l.i) (l.at + 4 * l.i) l.best ≡ greatest_word l.table l.count l.at 0
