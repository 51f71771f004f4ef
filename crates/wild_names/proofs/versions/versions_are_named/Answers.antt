use Rattle.wild_names.proofs.NamedLemmas.{definitions_named, needs_named}
use Rattle.wild_names.proofs.versions.versions_are_named.Goals as goal

pub returns-clause-definitions : goal.returns-clause-definitions
returns-clause-definitions c = definitions_named

pub returns-clause-needs : goal.returns-clause-needs
returns-clause-needs c = needs_named
