use Rattle.wild_frames.proofs.FilterLemmas.{kept_filtered, fields_spare}
use Rattle.wild_frames.proofs.EntryLemmas.{no_gaps, leads_all}
use Rattle.wild_frames.proofs.ByteLemmas.{are_read, others}
use Rattle.wild_frames.proofs.laws.kept_entries_are_read.Goals as goal

pub returns-clause-filtered : goal.returns-clause-filtered
returns-clause-filtered c = kept_filtered

pub returns-clause-gaps : goal.returns-clause-gaps
returns-clause-gaps c = no_gaps

pub returns-clause-read : goal.returns-clause-read
returns-clause-read c = are_read

pub returns-clause-lead : goal.returns-clause-lead
returns-clause-lead c = leads_all

pub returns-clause-spare : goal.returns-clause-spare
returns-clause-spare c = fields_spare

pub returns-clause-others : goal.returns-clause-others
returns-clause-others c = others
