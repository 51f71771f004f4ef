use Rattle.wild_table_formats.proofs.VersionLengths.{length-need_bytes}
use Rattle.wild_versions.proofs.WalkLemmas.{needs_read}
use Rattle.wild_versions.proofs.laws.needs_are_read.Goals as goal

pub returns-clause-lengths : goal.returns-clause-lengths
returns-clause-lengths c = length-need_bytes

pub returns-clause-read : goal.returns-clause-read
returns-clause-read c = needs_read c.verneed_is_read.ensures c.vernaux_is_read.ensures
