use Rattle.wild_names.proofs.Common.{◌<◌, ◌^◌, take, All, Symbol}
use Rattle.wild_names.proofs.numbers.symbols_fit.Given as goal

abbrev pub invariant-loop-symbol : goal.invariant-loop-symbol
invariant-loop-symbol l = All (λ (x : Symbol). x.version < 2 ^ 16) (take l.symbol-index l.symbols)
