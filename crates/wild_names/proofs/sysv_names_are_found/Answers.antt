use Rattle.wild_names.proofs.LookUps.{sysv_found}
use Rattle.wild_names.proofs.sysv_names_are_found.Goals as goal

pub returns : goal.returns
returns c = sysv_found c.tables_are_read.ensures.images c.tables_are_read.ensures.names c.sysv_look_up_finds_the_first.ensures.images
