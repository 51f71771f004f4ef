use Rattle.wild_table_formats.proofs.EntryLemmas.{length-rela_bytes, entry_read}
use Rattle.wild_table_formats.proofs.laws.entries_are_read.Goals as goal

pub returns-clause-lengths : goal.returns-clause-lengths
returns-clause-lengths c = λ es. length-rela_bytes es

pub returns-clause-read : goal.returns-clause-read
returns-clause-read c = λ whole es at k d h s l. entry_read c.rela_is_read.ensures whole es at k d h s l
