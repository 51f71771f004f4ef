use Rattle.wild_names.proofs.IndexLemmas.{indexes_stand}
use Rattle.wild_names.proofs.long_indexes_are_written.Goals as goal

pub returns : goal.returns
returns c = indexes_stand c.tables_are_placed.ensures c.entries_are_counted.ensures.bytes
