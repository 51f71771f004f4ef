use Rattle.wild_outlines.proofs.Common.{sym}
use Rattle.wild_outlines.proofs.GroupsFaults.{group_errors-outline}
use Rattle.wild_outlines.proofs.GroupsPieces.{group_pieces-outline}
use Rattle.wild_outlines.proofs.groups_by_outline.Goals as goal

pub returns : goal.returns
returns c = λ l i g. record { errors = sym (group_errors-outline l i g); pieces = sym (group_pieces-outline l i g) }
