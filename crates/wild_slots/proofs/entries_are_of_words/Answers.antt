use Rattle.wild_slots.proofs.KnownLemmas.{entries_of_words}
use Rattle.wild_slots.proofs.entries_are_of_words.Goals as goal

pub returns : goal.returns
returns c = λ l f part low. entries_of_words l f part low
