use Rattle.wild_slots.proofs.EachLemmas.{each_word}
use Rattle.wild_slots.proofs.each_word_is_placed.Goals as goal

pub returns : goal.returns
returns c = λ l h i at k s w e g m. each_word l h i at k s w e g m
