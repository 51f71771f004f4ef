use Rattle.wild_outlines.proofs.ChangedItems.{outline-changed}
use Rattle.wild_outlines.proofs.outline_stays.Goals as goal

pub returns : goal.returns
returns c = outline-changed
