use Rattle.std.proofs.Common.{◌≡◌, ℕ, ◌<◌, length, get_or, take, None}
use Rattle.wild_types.specs.Lookups.{files_of}
use Rattle.std.specs.Option.{option_or}
use Rattle.wild_symbols.specs.SymbolNumbers.{found}
use Rattle.wild_sections.proofs.per_symbol.place_groups.Given as goal

abbrev pub invariant-loop-group : goal.invariant-loop-group
invariant-loop-group g l =
    (k : ℕ) → k < length l.placed → get_or l.placed k None ≡ option_or (get_or l.initial.placed k None) (found (g.T.PerSymbol.recorded l.layout) (files_of (take l.group-index l.group-items)) k)
