use Rattle.wild_relr.proofs.SpellLemmas.{length-word_bytes, word_read}
use Rattle.wild_relr.proofs.laws.words_are_read.Goals as goal

pub returns-clause-lengths : goal.returns-clause-lengths
returns-clause-lengths c = λ ws. length-word_bytes ws

pub returns-clause-read : goal.returns-clause-read
returns-clause-read c = λ whole ws at k d h s l. word_read whole ws at k d h s l
