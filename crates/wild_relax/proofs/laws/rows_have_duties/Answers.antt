use Rattle.wild_relax.proofs.DutyLemmas.{rows_have_duties, mandatory_rows_alone}
use Rattle.wild_relax.proofs.laws.rows_have_duties.Goals as goal

pub returns-clause-listed : goal.returns-clause-listed
returns-clause-listed c = rows_have_duties

pub returns-clause-alone : goal.returns-clause-alone
returns-clause-alone c = mandatory_rows_alone
