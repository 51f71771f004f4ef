use Rattle.wild_relax.proofs.DutyLemmas.{fields_suit, addends_are_checked}
use Rattle.wild_relax.proofs.laws.rewritten_fields_suit_symbols.Goals as goal

pub returns-clause-symbols : goal.returns-clause-symbols
returns-clause-symbols c = fields_suit

pub returns-clause-addends : goal.returns-clause-addends
returns-clause-addends c = addends_are_checked
