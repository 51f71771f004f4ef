use Rattle.wild_relr.proofs.WriterLemmas.{block_stands}
use Rattle.wild_relr.proofs.words.add_block.Goals as goal

pub returns-clause-words : goal.returns-clause-words
returns-clause-words c = block_stands _ _ _ _ _ _ _ c.requires.base c.requires.slots c.requires.counted c.add_word.ensures.words c.add_bitmaps.ensures.words
