use Rattle.wild_meaning.proofs.WordsRefused.{right_words, wrong_words, cut_bits, slot_addends, pairs_excepted, thunks_judged}
use Rattle.wild_meaning.proofs.WordsUnknown.{negated_unknown, shifted_unknown}
use Rattle.wild_meaning.proofs.laws.wrong_words_are_refused.Goals as goal

pub returns-clause-right : goal.returns-clause-right
returns-clause-right c = right_words

pub returns-clause-wrong : goal.returns-clause-wrong
returns-clause-wrong c = wrong_words

pub returns-clause-cut : goal.returns-clause-cut
returns-clause-cut c = cut_bits

pub returns-clause-addends : goal.returns-clause-addends
returns-clause-addends c = slot_addends

pub returns-clause-pairs : goal.returns-clause-pairs
returns-clause-pairs c = pairs_excepted

pub returns-clause-negated : goal.returns-clause-negated
returns-clause-negated c = negated_unknown

pub returns-clause-shifted : goal.returns-clause-shifted
returns-clause-shifted c = shifted_unknown

pub returns-clause-thunks : goal.returns-clause-thunks
returns-clause-thunks c = thunks_judged
