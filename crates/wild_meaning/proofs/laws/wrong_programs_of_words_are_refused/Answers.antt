use Rattle.wild_meaning.proofs.WordsLegal.{words_legal}
use Rattle.wild_meaning.proofs.WordsCodeRefused.{wrong_words_of_images}
use Rattle.wild_meaning.proofs.WordsLinked.{words_linked}
use Rattle.wild_meaning.proofs.laws.wrong_programs_of_words_are_refused.Goals as goal

pub returns : goal.returns
returns c = record { legal = words_legal; code = wrong_words_of_images; linked = words_linked }
