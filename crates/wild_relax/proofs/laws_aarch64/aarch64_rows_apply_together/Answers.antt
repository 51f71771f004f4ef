use Rattle.wild_relax.proofs.TogetherLemmas.{rows_stand_together, chosen_stand}
use Rattle.wild_relax.proofs.laws_aarch64.aarch64_rows_apply_together.Goals as goal

pub returns-clause-stand : goal.returns-clause-stand
returns-clause-stand c = chosen_stand

pub returns-clause-together : goal.returns-clause-together
returns-clause-together c = rows_stand_together
