use Rattle.wild_relax.proofs.FieldsAArch64Lemmas.{fields_agree, types_have_forms, parts_are_fields}
use Rattle.wild_relax.proofs.laws_aarch64.aarch64_fields_agree.Goals as goal

pub returns-clause-fields : goal.returns-clause-fields
returns-clause-fields c = fields_agree

pub returns-clause-parts : goal.returns-clause-parts
returns-clause-parts c = parts_are_fields

pub returns-clause-types : goal.returns-clause-types
returns-clause-types c = types_have_forms
