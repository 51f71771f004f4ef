use Rattle.std.proofs.Common.{◌≡◌, ◌++◌, drop}
use Rattle.wild_needs.specs.DynamicStrings.{needed_from}
use Rattle.wild_table_formats.specs.DynamicSection.{entries_bytes}
use Rattle.wild_contents.proofs.dynamic.add_libraries.Given as goal

abbrev pub invariant-loop-file : goal.invariant-loop-file
invariant-loop-file l = l.bytes ++ entries_bytes (needed_from l.layout l.at (drop l.file-index l.file-items)) ≡ l.initial.bytes ++ entries_bytes (needed_from l.layout l.group.dynstr_start l.group.files)
