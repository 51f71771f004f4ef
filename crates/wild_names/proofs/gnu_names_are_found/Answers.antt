use Rattle.wild_names.proofs.LookUps.{gnu_found}
use Rattle.wild_names.proofs.gnu_names_are_found.Goals as goal

pub returns : goal.returns
returns c = gnu_found c.tables_are_read.ensures.images c.tables_are_read.ensures.names c.neighbours_ascend.ensures c.gnu_look_up_finds_the_first.ensures.images
