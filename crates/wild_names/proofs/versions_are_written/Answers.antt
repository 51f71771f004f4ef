use Rattle.wild_names.proofs.VersionDefinitions.{definitions_stand}
use Rattle.wild_names.proofs.VersionFits.{needs_stand}
use Rattle.wild_names.proofs.VersionRead.{versions_are_written}
use Rattle.wild_names.proofs.versions_are_written.Goals as goal

pub returns-clause-versions : goal.returns-clause-versions
returns-clause-versions c = versions_are_written c.tables_are_placed.ensures c.symbol_versions_are_read.ensures.lengths c.symbol_versions_are_read.ensures.read

pub returns-clause-definitions : goal.returns-clause-definitions
returns-clause-definitions c = definitions_stand c.tables_are_placed.ensures c.definitions_are_read.ensures.lengths c.definitions_are_read.ensures.read c.versions_are_named.ensures.definitions

pub returns-clause-needs : goal.returns-clause-needs
returns-clause-needs c = needs_stand c.tables_are_placed.ensures c.needs_are_read.ensures.lengths c.needs_are_read.ensures.read c.versions_are_named.ensures.needs
