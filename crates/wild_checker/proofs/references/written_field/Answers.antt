use Rattle.wild_checker.proofs.WrittenLemmas.{taken}
use Rattle.wild_checker.proofs.references.written_field.Goals as goal

pub returns-clause-written : goal.returns-clause-written
returns-clause-written c = taken c.widths_of_fields.ensures c.args.row.now c.args.value c.args.old.now _ _ _ c.requires.whole c.put.ensures c.write.ensures
