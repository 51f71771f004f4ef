use Rattle.std.proofs.Common.{◌≡◌, ◌+◌, drop}
use Rattle.wild_plan_rules.specs.SlotPlaces.{IsBounded, walk, symbol_step}
use Rattle.wild_clauses.proofs.slots.walk_symbols.Given as goal

abbrev pub invariant-loop-symbol : goal.invariant-loop-symbol
invariant-loop-symbol l = record {
  rest : walk (symbol_step l.layout) l.next (drop l.symbol-index l.symbols) ≡ walk (symbol_step l.layout) l.initial.next l.symbols;
  small : IsBounded l.next;
  number : l.next.symbol ≡ l.initial.next.symbol + l.symbol-index;
}
