use Rattle.std.proofs.Common.{◌≡◌, ◌++◌, drop}
use Rattle.wild_needs.specs.Versions.{definition_names}
use Rattle.wild_table_formats.specs.Strings.{string_bytes}
use Rattle.wild_contents.proofs.strings.add_defined_names.Given as goal

abbrev pub invariant-loop-definition : goal.invariant-loop-definition
invariant-loop-definition l = l.bytes ++ string_bytes (definition_names (drop l.definition-index l.definitions)) ≡ l.initial.bytes ++ string_bytes (definition_names l.definitions)
