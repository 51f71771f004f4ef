use Rattle.wild_headers.proofs.ReadLemmas.{programs_stand, sections_stand, names_stand}
use Rattle.wild_headers.proofs.laws.headers_are_read.Goals as goal

pub returns : goal.returns
returns c = record { programs = programs_stand; sections = sections_stand; names = names_stand }
