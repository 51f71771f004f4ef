use Rattle.std.proofs.Common.{◌≡◌, ◌++◌, drop}
use Rattle.wild_needs.specs.Versions.{needed_names}
use Rattle.wild_table_formats.specs.Strings.{string_bytes}
use Rattle.wild_contents.proofs.strings.add_needed_names.Given as goal

abbrev pub invariant-loop-version : goal.invariant-loop-version
invariant-loop-version l = l.bytes ++ string_bytes (needed_names (drop l.version-index l.versions)) ≡ l.initial.bytes ++ string_bytes (needed_names l.versions)
