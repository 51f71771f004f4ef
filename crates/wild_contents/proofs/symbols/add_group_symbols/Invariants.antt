use Rattle.std.proofs.Common.{◌≡◌, ◌++◌, drop}
use Rattle.wild_table_formats.specs.DynamicEntries.{entries_from}
use Rattle.wild_table_formats.specs.Symbols.{symbol_bytes}
use Rattle.wild_contents.proofs.symbols.add_group_symbols.Given as goal

abbrev pub invariant-loop-file : goal.invariant-loop-file
invariant-loop-file g l = l.bytes ++ symbol_bytes (entries_from l.resolved.layout.now l.at (drop l.file-index l.file-items)) ≡ l.initial.bytes ++ symbol_bytes (entries_from l.resolved.layout.now l.group.dynstr_start l.group.files)
