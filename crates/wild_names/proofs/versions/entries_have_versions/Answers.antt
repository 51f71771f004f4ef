use Rattle.wild_names.proofs.EntryVersions.{versions_beside}
use Rattle.wild_names.proofs.versions.entries_have_versions.Goals as goal

pub returns : goal.returns
returns c = versions_beside
