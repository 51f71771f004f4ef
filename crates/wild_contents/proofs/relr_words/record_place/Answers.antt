use Rattle.wild_contents.proofs.FileTableLemmas.{never_full}
use Rattle.wild_contents.proofs.relr_words.record_place.Goals as goal

pub returns-in-Err-clause-state : goal.returns-in-Err-clause-state
returns-in-Err-clause-state c = absurd (never_full c.args.words.now.state c.args.place c.args.words.now.room c.requires.room c.in-Err.ensures.full)
