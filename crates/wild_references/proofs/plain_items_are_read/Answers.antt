use Rattle.wild_references.proofs.PlainItems.{rows_have_formulas, plain_instructions_do}
use Rattle.wild_references.proofs.Values.{has_raw}
use Rattle.wild_references.proofs.plain_items_are_read.Goals as goal

pub returns-clause-rows : goal.returns-clause-rows
returns-clause-rows c = rows_have_formulas c.machines_have_their_facts.ensures.rows

pub returns-clause-values : goal.returns-clause-values
returns-clause-values c = has_raw

pub returns-clause-instructions : goal.returns-clause-instructions
returns-clause-instructions c = plain_instructions_do
