use Rattle.wild_aarch64.proofs.FieldLemmas.{forms_are_read, fields_are_written}
use Rattle.wild_aarch64.proofs.laws.fields_are_written.Goals as goal

pub returns-clause-read : goal.returns-clause-read
returns-clause-read c = forms_are_read

pub returns-clause-written : goal.returns-clause-written
returns-clause-written c = fields_are_written
