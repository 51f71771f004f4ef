use Rattle.std.proofs.Common.{◌≡◌, ◌++◌, drop}
use Rattle.wild_needs.specs.DynamicStrings.{listed_names}
use Rattle.wild_table_formats.specs.Strings.{string_bytes}
use Rattle.wild_contents.proofs.strings.add_exported_names.Given as goal

abbrev pub invariant-loop-symbol : goal.invariant-loop-symbol
invariant-loop-symbol l = l.bytes ++ string_bytes (listed_names (drop l.symbol-index l.listed)) ≡ l.initial.bytes ++ string_bytes (listed_names l.listed)
