use Rattle.wild_table_formats.proofs.DynamicLemmas.{length_entries, lengths, records_at, records_fit, needed_are}
use Rattle.wild_table_formats.proofs.FoundLemmas.{behind_null, found, tables_named}
use Rattle.wild_table_formats.proofs.laws.dynamic_sections_are_read.Goals as goal

pub returns-clause-needed : goal.returns-clause-needed
returns-clause-needed c = needed_are

pub returns-clause-records : goal.returns-clause-records
returns-clause-records c = length_entries

pub returns-clause-lengths : goal.returns-clause-lengths
returns-clause-lengths c = lengths

pub returns-clause-stand : goal.returns-clause-stand
returns-clause-stand c = records_at

pub returns-clause-fit : goal.returns-clause-fit
returns-clause-fit c = records_fit

pub returns-clause-nothing_after_null : goal.returns-clause-nothing_after_null
returns-clause-nothing_after_null c = behind_null

pub returns-clause-found : goal.returns-clause-found
returns-clause-found c = found

pub returns-clause-named : goal.returns-clause-named
returns-clause-named c = tables_named
