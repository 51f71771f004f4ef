use Rattle.wild_outlines.proofs.Common.{sym}
use Rattle.wild_outlines.proofs.PaddingLemmas.{padding-outline}
use Rattle.wild_outlines.proofs.padding_by_outline.Goals as goal

pub returns : goal.returns
returns c = λ l. sym (padding-outline l)
