use Rattle.wild_loaded.proofs.HeadersFit.{file_header_loads}
use Rattle.wild_loaded.proofs.Loads.{has_headers}
use Rattle.wild_loaded.proofs.FileHeader.{header_told}
use Rattle.wild_loaded.proofs.headers_are_present.Goals as goal

pub returns-clause-stand : goal.returns-clause-stand
returns-clause-stand c = record {
  stand = λ l k numbers laid. has_headers l k numbers laid;
  taken = λ l k. file_header_loads l k;
}

pub returns-clause-tell : goal.returns-clause-tell
returns-clause-tell c = header_told c.file_header_is_read.ensures c.program_header_is_read.ensures c.section_header_is_read.ensures
