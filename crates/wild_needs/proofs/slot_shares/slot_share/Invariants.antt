use Rattle.std.proofs.Common.{◌≡◌, ◌+◌, ◌-◌, ◌^◌, ◌<◌, drop, min}
use Rattle.wild_types.specs.Lists.{total}
use Rattle.wild_needs.specs.SlotShares.{symbol_share}
use Rattle.wild_needs.proofs.slot_shares.slot_share.Given as goal

abbrev pub invariant-loop-symbol : goal.invariant-loop-symbol
invariant-loop-symbol l = record {
  rest : min (2 ^ 64 - 1) (l.sum + total (symbol_share l.layout l.fn.role) (drop l.symbol-index l.symbol-items)) ≡ min (2 ^ 64 - 1) (total (symbol_share l.layout l.fn.role) l.symbol-items);
  small : l.sum < 2 ^ 64;
}
