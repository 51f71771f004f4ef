use Rattle.wild_hashes.proofs.FoundLemmas.{gnu_stood_found, gnu_read_found, gnu_found}
use Rattle.wild_hashes.proofs.ImageLemmas.{gnu_found_in_image}
use Rattle.wild_hashes.proofs.laws.gnu_look_up_finds_the_first.Goals as goal

pub returns-clause-readers : goal.returns-clause-readers
returns-clause-readers c = gnu_read_found

pub returns-clause-standing : goal.returns-clause-standing
returns-clause-standing c = gnu_stood_found

pub returns-clause-written : goal.returns-clause-written
returns-clause-written c = gnu_found c.gnu_hash_header_is_read.ensures

pub returns-clause-images : goal.returns-clause-images
returns-clause-images c = gnu_found_in_image (gnu_found c.gnu_hash_header_is_read.ensures)
