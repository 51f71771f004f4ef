use Rattle.std.proofs.Common.{◌≡◌, ◌++◌, drop}
use Rattle.std.specs.List.{filter}
use Rattle.wild_needs.specs.DynamicStrings.{symbol_names}
use Rattle.wild_needs.specs.DynamicSymbols.{is_undefined_entry}
use Rattle.wild_table_formats.specs.Strings.{string_bytes}
use Rattle.wild_contents.proofs.strings.add_undefined_names.Given as goal

abbrev pub invariant-loop-symbol : goal.invariant-loop-symbol
invariant-loop-symbol l = l.bytes ++ string_bytes (symbol_names (filter (is_undefined_entry l.role) (drop l.symbol-index l.symbols))) ≡ l.initial.bytes ++ string_bytes (symbol_names (filter (is_undefined_entry l.role) l.symbols))
