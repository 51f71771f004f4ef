use Rattle.std.proofs.Common.{◌≡◌, ◌+◌, ◌*◌, ◌≤◌, length, drop}
use Rattle.wild_records.specs.Verneeds.{vernaux_size}
use Rattle.wild_table_formats.specs.VersionRoom.{with_bytes}
use Rattle.wild_table_formats.specs.VersionChain.{chain}
use Rattle.wild_table_formats.specs.VersionNeeds.{needed_bytes}
use Rattle.wild_versions.proofs.needs.push_versions.Given as goal

abbrev pub invariant-loop-i : goal.invariant-loop-i
invariant-loop-i l = record {
  rest : with_bytes (chain (needed_bytes l.names) l.i (drop l.i l.versions)) l.table ≡ with_bytes (chain (needed_bytes l.names) 0 l.versions) l.initial.table;
  room : length l.table.bytes + vernaux_size * length (drop l.i l.versions) ≤ l.table.room;
}
