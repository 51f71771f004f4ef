use Rattle.wild_table_formats.proofs.VersionRooms.{length-symbol_versions, length-file_definitions, length-group_needs}
use Rattle.wild_versions.proofs.laws.version_tables_have_their_lengths.Goals as goal

pub returns-clause-symbols : goal.returns-clause-symbols
returns-clause-symbols c = length-symbol_versions

pub returns-clause-definitions : goal.returns-clause-definitions
returns-clause-definitions c = length-file_definitions

pub returns-clause-needs : goal.returns-clause-needs
returns-clause-needs c = length-group_needs
