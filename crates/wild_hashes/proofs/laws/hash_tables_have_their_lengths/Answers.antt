use Rattle.wild_hashes.proofs.TableLemmas.{length-sysv_table, length-gnu_table}
use Rattle.wild_hashes.proofs.laws.hash_tables_have_their_lengths.Goals as goal

pub returns-clause-sysv : goal.returns-clause-sysv
returns-clause-sysv c = length-sysv_table

pub returns-clause-gnu : goal.returns-clause-gnu
returns-clause-gnu c = length-gnu_table
