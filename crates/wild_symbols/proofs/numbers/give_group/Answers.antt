use Rattle.wild_needs.specs.TableSymbols.{file_items}
use Rattle.wild_words.proofs.RunLemmas.{listed_next}
use Rattle.wild_symbols.proofs.numbers.give_group.Goals as goal

pub loop-file-preserved : goal.loop-file-preserved
loop-file-preserved g c =
    listed_next (file_items c.args.layout.now) c.as_slice-file-items.result.now c.loop-file.file-index c.file-item.result c.loop-file-test.true c.file-item.is c.loop-file.invariant c.in_ok-give_table.ensures
