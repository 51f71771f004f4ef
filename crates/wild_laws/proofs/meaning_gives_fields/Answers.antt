use Rattle.wild_laws.proofs.FirstPath.{meaning_gives_fields, meaning_gives_forms}
use Rattle.wild_laws.proofs.FirstNames.{names_addresses}
use Rattle.wild_laws.proofs.meaning_gives_fields.Goals as goal

pub returns-clause-fields : goal.returns-clause-fields
returns-clause-fields c = meaning_gives_fields

pub returns-clause-forms : goal.returns-clause-forms
returns-clause-forms c = meaning_gives_forms

pub returns-clause-names : goal.returns-clause-names
returns-clause-names c = names_addresses
