use Rattle.wild_words.proofs.RunLemmas.{listed_next}
use Rattle.wild_symbols.specs.SectionWalk.{singletons_in}
use Rattle.wild_symbols.proofs.section_walk.give_group_singletons.Goals as goal

pub loop-file-preserved : goal.loop-file-preserved
loop-file-preserved g c = listed_next singletons_in c.as_slice-file-items.result.now c.loop-file.file-index c.file-item.result c.loop-file-test.true c.file-item.is c.loop-file.invariant c.in_ok-give_file_singletons.ensures
