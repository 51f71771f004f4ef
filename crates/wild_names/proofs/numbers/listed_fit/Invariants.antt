use Rattle.wild_names.proofs.Common.{◌<◌, ◌^◌, take, All, DynamicSymbol}
use Rattle.wild_names.proofs.numbers.listed_fit.Given as goal

abbrev pub invariant-loop-symbol : goal.invariant-loop-symbol
invariant-loop-symbol l = All (λ (x : DynamicSymbol). x.version < 2 ^ 16) (take l.symbol-index l.symbols)
