use Rattle.wild_meaning.proofs.StaticRefused.{wrong_data, wrong_blank}
use Rattle.wild_meaning.proofs.CodeRefused.{wrong_branch, wrong_load, wrong_descriptor, wrong_data_load}
use Rattle.wild_meaning.proofs.SequenceRefused.{wrong_sequence, wrong_pair}
use Rattle.wild_meaning.proofs.StaticLinked.{static_linked}
use Rattle.wild_meaning.proofs.PaddedLinked.{padded_linked}
use Rattle.wild_meaning.proofs.laws.wrong_programs_are_refused.Goals as goal

pub returns : goal.returns
returns c = record {
  words = wrong_data c.file_header_is_read.ensures;
  code = record { branch = wrong_branch; load = wrong_load; sequence = wrong_sequence; pair = wrong_pair; descriptor = wrong_descriptor; stored = wrong_data_load };
  blank = wrong_blank;
  linked = static_linked;
  padded = padded_linked;
}
