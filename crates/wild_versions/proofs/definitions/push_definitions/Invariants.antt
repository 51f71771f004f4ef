use Rattle.std.proofs.Common.{◌≡◌, ◌+◌, ◌≤◌, length, drop}
use Rattle.wild_table_formats.specs.VersionRoom.{with_bytes}
use Rattle.wild_table_formats.specs.VersionChain.{chain}
use Rattle.wild_table_formats.specs.VersionDefinitions.{definition_bytes, definition_table}
use Rattle.wild_needs.specs.Versions.{definitions_size}
use Rattle.wild_versions.proofs.definitions.push_definitions.Given as goal

abbrev pub invariant-loop-i : goal.invariant-loop-i
invariant-loop-i l = record {
  rest : with_bytes (chain (definition_bytes l.names l.soname) l.i (drop l.i l.definitions)) l.table ≡ with_bytes (definition_table l.names l.soname l.definitions) l.initial.table;
  room : length l.table.bytes + definitions_size (drop l.i l.definitions) ≤ l.table.room;
}
