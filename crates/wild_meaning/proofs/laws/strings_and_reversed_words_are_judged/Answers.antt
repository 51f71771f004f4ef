use Rattle.wild_meaning.proofs.StringsRefused.{strings_judged, reversed_judged, texts_judged}
use Rattle.wild_meaning.proofs.StringsLinked.{strings_legal, strings_linked}
use Rattle.wild_meaning.proofs.laws.strings_and_reversed_words_are_judged.Goals as goal

pub returns : goal.returns
returns c = record { legal = strings_legal; strings = strings_judged; reversed = reversed_judged; texts = texts_judged; linked = strings_linked }
