use Rattle.wild_relax.proofs.KeepAArch64Lemmas.{rows_of_aarch64_keep}
use Rattle.wild_relax.proofs.laws_aarch64.aarch64_rewrites_keep_the_effect.Goals as goal

pub returns : goal.returns
returns c = rows_of_aarch64_keep
