use Rattle.wild_placer.proofs.LawLemmas.{runs_are_separate}
use Rattle.wild_placer.proofs.laws.placed_runs_are_separate.Goals as goal

pub returns : goal.returns
returns c = runs_are_separate
