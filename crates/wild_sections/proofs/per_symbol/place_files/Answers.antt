use Rattle.std.proofs.Common.{arith, ◌∷◌, [], take}
use Rattle.wild_symbols.proofs.NoteLemmas.{found_more, one_file_more}
use Rattle.wild_sections.proofs.per_symbol.place_files.Goals as goal

pub loop-file-preserved : goal.loop-file-preserved
loop-file-preserved g c = λ k h.
    found_more (g.T.PerSymbol.recorded c.args.layout.now) (take c.loop-file.file-index c.args.files.now) (c.file-item.result ∷ []) _ k _ _ _
    (one_file_more c.args.files.now c.loop-file.file-index c.file-item.result c.loop-file-test.true c.file-item.is)
    (c.loop-file.invariant k (omega (arith, c.place_file.auto.placed)))
    (c.place_file.ensures k (omega (arith, c.place_file.auto.placed)))
