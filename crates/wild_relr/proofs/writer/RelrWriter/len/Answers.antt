use Rattle.wild_relr.proofs.WriterLemmas.{length_words_in}
use Rattle.wild_relr.proofs.writer.RelrWriter.len.Goals as goal

pub returns-clause-words : goal.returns-clause-words
returns-clause-words c = λ bytes. length_words_in bytes c.args.self.now.count
