use Rattle.wild_loaded.proofs.StoredParts.{sections_stored, zeros_stored}
use Rattle.wild_loaded.proofs.Blanks.{blanks_stored}
use Rattle.wild_loaded.proofs.sections_are_stored.Goals as goal

pub returns-clause-sections : goal.returns-clause-sections
returns-clause-sections c = sections_stored c.bytes_are_loaded.ensures.bytes c.parts_are_stored.ensures

pub returns-clause-zeros : goal.returns-clause-zeros
returns-clause-zeros c = zeros_stored c.bytes_are_loaded.ensures.zeros

pub returns-clause-blanks : goal.returns-clause-blanks
returns-clause-blanks c = blanks_stored c.bytes_are_loaded.ensures.bytes
