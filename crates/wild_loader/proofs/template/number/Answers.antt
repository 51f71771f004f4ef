use Rattle.wild_loader.proofs.WindowLemmas.{number_4}
use Rattle.wild_loader.proofs.template.number.Goals as goal

pub returns-clause-number : goal.returns-clause-number
returns-clause-number c = number_4 c.args.bytes.now c.args.offset _ _ _ _ c.byte_at.ensures c.byte_at-2.ensures c.byte_at-3.ensures c.byte_at-4.ensures
