use Rattle.wild_references.proofs.PageBases.{moves_by_pages, have_bytes}
use Rattle.wild_references.proofs.outputs_move_by_pages.Goals as goal

pub returns : goal.returns
returns c = record { pages = moves_by_pages; bytes = have_bytes }
