use Rattle.wild_placement.proofs.PlainLemmas.{plain_file_placed, plain_files}
use Rattle.wild_placement.proofs.laws.plain_files_are_unchanged.Goals as goal

pub returns-clause-file : goal.returns-clause-file
returns-clause-file c = plain_file_placed

pub returns-clause-files : goal.returns-clause-files
returns-clause-files c = plain_files
