use Rattle.wild_symbols.proofs.RunLemmas.{run_read, run_counted, stand_behind}
use Rattle.wild_symbols.proofs.RoomLemmas.{run_indexes, run_whole}
use Rattle.wild_symbols.proofs.EntryRunLemmas.{run_entries}
use Rattle.wild_symbols.proofs.TableRunLemmas.{run_tables}
use Rattle.wild_symbols.proofs.laws.runs_are_read.Goals as goal

pub returns-clause-read : goal.returns-clause-read
returns-clause-read c = λ cs w local k table strings at d. run_read c.symtab_entry_is_read.ensures cs w local k table strings at d

pub returns-clause-count : goal.returns-clause-count
returns-clause-count c = run_counted

pub returns-clause-earlier_content : goal.returns-clause-earlier_content
returns-clause-earlier_content c = stand_behind

pub returns-clause-indexes : goal.returns-clause-indexes
returns-clause-indexes c = run_indexes

pub returns-clause-whole : goal.returns-clause-whole
returns-clause-whole c = run_whole

pub returns-clause-entries : goal.returns-clause-entries
returns-clause-entries c = run_entries

pub returns-clause-tables : goal.returns-clause-tables
returns-clause-tables c = run_tables
