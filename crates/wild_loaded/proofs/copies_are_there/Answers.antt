use Rattle.wild_loaded.proofs.CopiedSymbols.{copies_there}
use Rattle.wild_loaded.proofs.copies_are_there.Goals as goal

pub returns : goal.returns
returns c = copies_there
