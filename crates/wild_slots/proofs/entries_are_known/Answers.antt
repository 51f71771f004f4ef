use Rattle.wild_slots.proofs.KnownLemmas.{entries_known}
use Rattle.wild_slots.proofs.entries_are_known.Goals as goal

pub returns : goal.returns
returns c = entries_known
