use Rattle.wild_names.proofs.ReadSymbols.{symbols_read}
use Rattle.wild_names.proofs.dynamic_symbols_are_read.Goals as goal

pub returns : goal.returns
returns c = symbols_read c.tables_are_read.ensures.images c.tables_are_read.ensures.names c.fields_of_records.ensures
