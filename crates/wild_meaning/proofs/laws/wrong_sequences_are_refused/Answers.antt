use Rattle.wild_meaning.proofs.SequencesRefused.{removed_calls, other_bases, kept_calls, other_addends}
use Rattle.wild_meaning.proofs.laws.wrong_sequences_are_refused.Goals as goal

pub returns : goal.returns
returns c = record { calls = removed_calls; bases = other_bases; kept = kept_calls; addends = other_addends }
