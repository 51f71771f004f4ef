use Rattle.std.proofs.Common.{◌≡◌, ◌+◌, ◌-◌, ◌^◌, ◌<◌, drop}
use Rattle.std.specs.Prelude.{min}
use Rattle.wild_types.specs.Lists.{total}
use Rattle.wild_contents.specs.Hashes.{symbol_undefined}
use Rattle.wild_contents.proofs.hashes.count_undefined.Given as goal

abbrev pub invariant-loop-symbol : goal.invariant-loop-symbol
invariant-loop-symbol l = record {
  rest : min (2 ^ 64 - 1) (l.count + total (symbol_undefined l.role) (drop l.symbol-index l.symbols)) ≡ min (2 ^ 64 - 1) (total (symbol_undefined l.role) l.symbols);
  small : l.count < 2 ^ 64;
}
