use Rattle.wild_hashes.proofs.FoundLemmas.{sysv_stood_found, sysv_read_found, sysv_found}
use Rattle.wild_hashes.proofs.ImageLemmas.{sysv_found_in_image}
use Rattle.wild_hashes.proofs.laws.sysv_look_up_finds_the_first.Goals as goal

pub returns-clause-readers : goal.returns-clause-readers
returns-clause-readers c = sysv_read_found

pub returns-clause-standing : goal.returns-clause-standing
returns-clause-standing c = sysv_stood_found

pub returns-clause-written : goal.returns-clause-written
returns-clause-written c = sysv_found

pub returns-clause-images : goal.returns-clause-images
returns-clause-images c = sysv_found_in_image sysv_found
