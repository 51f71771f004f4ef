use Rattle.wild_table_formats.specs.SymbolVersions.{spelled}
use Rattle.wild_table_formats.proofs.VersionLengths.{length-versym}
use Rattle.wild_versions.proofs.NameLemmas.{full_with}
use Rattle.wild_versions.proofs.files.add_version.Goals as goal

pub returns-clause-full : goal.returns-clause-full
returns-clause-full c = rw (c.push_version.ensures, c.in_ok-make_room.ensures) (full_with (spelled c.args.version) 2 c.args.filled.now (length-versym c.args.version) c.requires)
