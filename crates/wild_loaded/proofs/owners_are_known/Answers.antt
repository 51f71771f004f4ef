use Rattle.wild_loaded.proofs.SectionBytesInMemory.{section_ends}
use Rattle.wild_loaded.proofs.Loads.{one_owner_each}
use Rattle.wild_loaded.proofs.owners_are_known.Goals as goal

pub returns : goal.returns
returns c = λ l laid. one_owner_each l laid
