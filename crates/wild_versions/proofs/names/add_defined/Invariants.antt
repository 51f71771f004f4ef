use Rattle.std.proofs.Common.{◌≡◌, ◌++◌, drop}
use Rattle.wild_needs.specs.Versions.{definition_names}
use Rattle.wild_table_formats.specs.VersionNames.{offsets_from}
use Rattle.wild_versions.proofs.names.add_defined.Given as goal

abbrev pub invariant-loop-definition : goal.invariant-loop-definition
invariant-loop-definition l =
    l.names.items ++ offsets_from l.at (definition_names (drop l.definition-index l.definitions)) ≡ l.initial.names.items ++ offsets_from l.initial.at (definition_names l.definitions)
