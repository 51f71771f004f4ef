use Rattle.wild_names.proofs.InfoCount.{locals_are_counted}
use Rattle.wild_names.proofs.local_symbols_are_counted.Goals as goal

pub returns : goal.returns
returns c = locals_are_counted c.entries_are_counted.ensures.sides c.names_are_strings.ensures.groups c.headers_are_read.ensures.sections c.fields_of_records.ensures
