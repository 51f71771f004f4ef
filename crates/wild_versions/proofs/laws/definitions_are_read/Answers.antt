use Rattle.wild_table_formats.proofs.VersionLengths.{length-definition_table}
use Rattle.wild_versions.proofs.WalkLemmas.{definitions_read}
use Rattle.wild_versions.proofs.laws.definitions_are_read.Goals as goal

pub returns-clause-lengths : goal.returns-clause-lengths
returns-clause-lengths c = length-definition_table

pub returns-clause-read : goal.returns-clause-read
returns-clause-read c = definitions_read c.verdef_is_read.ensures c.verdaux_is_read.ensures
