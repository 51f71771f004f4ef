use Rattle.wild_loader.proofs.RunsMeant.{runs-meant}
use Rattle.wild_loader.proofs.laws.runs_are_meant.Goals as goal

pub returns : goal.returns
returns c = runs-meant
