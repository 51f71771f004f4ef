use Rattle.std.proofs.Common.{arith, ◌∷◌, [], take}
use Rattle.wild_symbols.specs.SymbolNumbers.{section_symbol_number_at}
use Rattle.wild_symbols.proofs.NoteLemmas.{found_more, one_file_more}
use Rattle.wild_symbols.proofs.section_index.SectionNumbers.note_files.Goals as goal

pub loop-file-preserved : goal.loop-file-preserved
loop-file-preserved c = λ k h.
    found_more (section_symbol_number_at c.args.self.now.layout.now) (take c.loop-file.file-index c.args.files.now) (c.file-item.result ∷ []) _ k _ _ _
    (one_file_more c.args.files.now c.loop-file.file-index c.file-item.result c.loop-file-test.true c.file-item.is)
    (c.loop-file.invariant k (omega (arith, c.note_file.auto.notes)))
    (c.in_ok-note_file.ensures k (omega (arith, c.note_file.auto.notes)))
