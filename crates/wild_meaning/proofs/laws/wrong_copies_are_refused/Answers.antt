use Rattle.wild_meaning.proofs.CopyRefused.{wrong_copy, wrong_zero, wrong_place, wrong_machine, wrong_headers}
use Rattle.wild_meaning.proofs.CopyLinked.{copying_linked}
use Rattle.wild_meaning.proofs.laws.wrong_copies_are_refused.Goals as goal

pub returns : goal.returns
returns c = record { copy = wrong_copy; zero = wrong_zero; place = wrong_place; machine = wrong_machine; header = wrong_headers c.file_header_is_read.ensures; linked = copying_linked }
