use Rattle.wild_aarch64.proofs.RowLemmas.{rows_keep, rows_are_steps}
use Rattle.wild_aarch64.proofs.BranchLemmas.{branches_keep}
use Rattle.wild_aarch64.proofs.laws.rewrites_keep_the_effect.Goals as goal

pub returns-clause-rows : goal.returns-clause-rows
returns-clause-rows c = rows_keep

pub returns-clause-branches : goal.returns-clause-branches
returns-clause-branches c = branches_keep

pub returns-clause-steps : goal.returns-clause-steps
returns-clause-steps c = rows_are_steps
