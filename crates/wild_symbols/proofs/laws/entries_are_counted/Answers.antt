use Rattle.wild_table_formats.proofs.SymtabLemmas.{length-side_entries, length-file_side, length-table_entries, length-long_indexes, length-index_bytes}
use Rattle.wild_symbols.proofs.laws.entries_are_counted.Goals as goal

pub returns-clause-sides : goal.returns-clause-sides
returns-clause-sides c = length-side_entries

pub returns-clause-files : goal.returns-clause-files
returns-clause-files c = length-file_side

pub returns-clause-groups : goal.returns-clause-groups
returns-clause-groups c = length-table_entries

pub returns-clause-indexes : goal.returns-clause-indexes
returns-clause-indexes c = length-long_indexes

pub returns-clause-bytes : goal.returns-clause-bytes
returns-clause-bytes c = length-index_bytes
