use Rattle.std.proofs.Common.{◌≡◌, ◌++◌, drop}
use Rattle.wild_table_formats.specs.VersionRoom.{IsFull}
use Rattle.wild_table_formats.specs.VersionNames.{needs_from}
use Rattle.wild_versions.proofs.files.group_needs.Given as goal

abbrev pub invariant-loop-file : goal.invariant-loop-file
invariant-loop-file l = record {
  full : IsFull l.filled;
  rest : l.filled.bytes ++ needs_from l.layout l.at (drop l.file-index l.file-items) ≡ needs_from l.layout l.group.dynstr_start l.file-items;
}
