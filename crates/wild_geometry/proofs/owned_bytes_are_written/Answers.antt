use Rattle.wild_geometry.proofs.PlacedSectionLemmas.{AllClausesHold-from_clauses}
use Rattle.wild_geometry.proofs.WrittenOwners.{image_over}
use Rattle.wild_geometry.proofs.owned_bytes_are_written.Goals as goal

pub returns : goal.returns
returns c = λ l clauses shares base padded. image_over l (AllClausesHold-from_clauses l clauses shares) (c.layouts_are_laid_out.ensures l clauses shares) base padded
