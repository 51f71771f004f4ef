use Rattle.wild_tables.proofs.PlacedLemmas.{words_stand, words_in_order, fillings_are_there, entries_fill, counts_same}
use Rattle.wild_tables.proofs.laws.slots_are_filled.Goals as goal

pub returns-clause-stand : goal.returns-clause-stand
returns-clause-stand c = words_stand

pub returns-clause-read : goal.returns-clause-read
returns-clause-read c = words_in_order c.words_are_read.ensures.read

pub returns-clause-filled : goal.returns-clause-filled
returns-clause-filled c = fillings_are_there

pub returns-clause-places : goal.returns-clause-places
returns-clause-places c = entries_fill

pub returns-clause-counts : goal.returns-clause-counts
returns-clause-counts c = counts_same
