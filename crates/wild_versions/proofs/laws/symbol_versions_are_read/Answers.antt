use Rattle.wild_table_formats.proofs.VersionLengths.{length-version_bytes, version_read}
use Rattle.wild_versions.proofs.laws.symbol_versions_are_read.Goals as goal

pub returns-clause-lengths : goal.returns-clause-lengths
returns-clause-lengths c = length-version_bytes

pub returns-clause-read : goal.returns-clause-read
returns-clause-read c = version_read c.versym_is_read.ensures
