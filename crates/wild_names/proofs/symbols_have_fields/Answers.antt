use Rattle.wild_names.proofs.FieldLemmas.{table_has_fields}
use Rattle.wild_names.proofs.FieldListed.{listed_have_fields}
use Rattle.wild_names.proofs.symbols_have_fields.Goals as goal

pub returns-clause-table : goal.returns-clause-table
returns-clause-table c = table_has_fields

pub returns-clause-listed : goal.returns-clause-listed
returns-clause-listed c = listed_have_fields c.layouts_are_laid_out.ensures
