use Rattle.wild_checker.proofs.WorldLemmas.{worlds_outlined}
use Rattle.wild_checker.proofs.laws.worlds_are_outlined.Goals as goal

pub returns : goal.returns
returns c = worlds_outlined
