use Rattle.std.proofs.Common.{◌≡◌, ℕ, ◌<◌, length, get_or, take, None}
use Rattle.std.specs.Option.{option_or}
use Rattle.wild_symbols.specs.SymbolNumbers.{found}
use Rattle.wild_sections.proofs.per_symbol.place_files.Given as goal

abbrev pub invariant-loop-file : goal.invariant-loop-file
invariant-loop-file g l =
    (k : ℕ) → k < length l.placed → get_or l.placed k None ≡ option_or (get_or l.initial.placed k None) (found (g.T.PerSymbol.recorded l.layout) (take l.file-index l.files) k)
