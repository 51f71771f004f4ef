use Rattle.wild_bound.proofs.Common.{take, All, SymbolNumbers}
use Rattle.wild_bound.proofs.numbers.symbols_fit.Given as goal

abbrev pub invariant-loop-symbol : goal.invariant-loop-symbol
invariant-loop-symbol l = All SymbolNumbers (take l.symbol-index l.symbols)
