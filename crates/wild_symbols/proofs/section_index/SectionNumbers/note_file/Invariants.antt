use Rattle.std.proofs.Common.{◌≡◌, ℕ, ◌<◌, ◌&&◌, length, get_or, Some, None, nat_le, nat_lt, if◌then◌else◌}
use Rattle.std.specs.Option.{option_or}
use Rattle.wild_symbols.specs.SymbolNumbers.{section_symbol_number_at}
use Rattle.wild_symbols.proofs.section_index.SectionNumbers.note_file.Given as goal

abbrev pub invariant-loop-i : goal.invariant-loop-i
invariant-loop-i l =
    (k : ℕ) → k < length l.notes → get_or l.notes k None ≡ (if nat_le l.file.first_symbol k && nat_lt k l.i then option_or (get_or l.initial.notes k None) (Some (section_symbol_number_at l.self.layout.now k l.file)) else get_or l.initial.notes k None)
