use Rattle.std.proofs.Common.{◌≡◌, ℕ, ◌<◌, length, get_or, take, None}
use Rattle.std.specs.Option.{option_or}
use Rattle.wild_symbols.specs.SymbolNumbers.{section_symbol_number_at, found}
use Rattle.wild_symbols.proofs.section_index.SectionNumbers.note_files.Given as goal

abbrev pub invariant-loop-file : goal.invariant-loop-file
invariant-loop-file l =
    (k : ℕ) → k < length l.notes → get_or l.notes k None ≡ option_or (get_or l.initial.notes k None) (found (section_symbol_number_at l.self.layout.now) (take l.file-index l.files) k)
