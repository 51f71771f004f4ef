use Rattle.std.proofs.Common.{◌≡◌, ℕ, ◌<◌, length, get_or, take, None}
use Rattle.wild_types.specs.Lookups.{files_of}
use Rattle.std.specs.Option.{option_or}
use Rattle.wild_symbols.specs.SymbolNumbers.{section_symbol_number_at, found}
use Rattle.wild_symbols.proofs.section_index.SectionNumbers.note_groups.Given as goal

abbrev pub invariant-loop-group : goal.invariant-loop-group
invariant-loop-group l =
    (k : ℕ) → k < length l.notes → get_or l.notes k None ≡ option_or (get_or l.initial.notes k None) (found (section_symbol_number_at l.self.layout.now) (files_of (take l.group-index l.group-items)) k)
