use Rattle.wild_geometry.proofs.MachineLemmas.{facts_of, rows_read}
use Rattle.wild_geometry.proofs.machines_have_their_facts.Goals as goal

pub returns-clause-facts : goal.returns-clause-facts
returns-clause-facts c = facts_of

pub returns-clause-rows : goal.returns-clause-rows
returns-clause-rows c = rows_read c.fields_of_x86_64.ensures.agree c.fields_of_aarch64.ensures.agree
