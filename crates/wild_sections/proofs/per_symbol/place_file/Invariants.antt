use Rattle.std.proofs.Common.{◌≡◌, ℕ, ◌<◌, ◌&&◌, length, get_or, Some, None, nat_le, nat_lt, if◌then◌else◌}
use Rattle.std.specs.Option.{option_or}
use Rattle.wild_sections.proofs.per_symbol.place_file.Given as goal

abbrev pub invariant-loop-i : goal.invariant-loop-i
invariant-loop-i g l =
    (k : ℕ) → k < length l.placed → get_or l.placed k None ≡ (if nat_le l.file.first_symbol k && nat_lt k l.i then option_or (get_or l.initial.placed k None) (Some (g.T.PerSymbol.recorded l.layout k l.file)) else get_or l.initial.placed k None)
