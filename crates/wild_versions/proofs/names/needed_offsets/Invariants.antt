use Rattle.std.proofs.Common.{◌≡◌, ◌++◌, drop}
use Rattle.wild_needs.specs.Versions.{needed_names}
use Rattle.wild_table_formats.specs.VersionNames.{offsets_from}
use Rattle.wild_versions.proofs.names.needed_offsets.Given as goal

abbrev pub invariant-loop-version : goal.invariant-loop-version
invariant-loop-version l = l.names.items ++ offsets_from l.at (needed_names (drop l.version-index l.versions)) ≡ offsets_from l.initial.at (needed_names l.versions)
