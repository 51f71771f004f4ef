use Rattle.wild_image.proofs.Common.{◌≡◌, [], take, flat_map, flat_map_from, group_errors, group_tables, group_files}
use Rattle.wild_image.proofs.buffer.bytes_of_batch.Given as goal

abbrev pub invariant-loop-i : goal.invariant-loop-i
invariant-loop-i g l = record {
  faults : flat_map_from (group_errors l.resolved.layout.now) l.batch.first (take l.i l.batch.groups.now) ≡ [];
  tables : l.bytes.tables ≡ flat_map (group_tables l.resolved.layout.now) (take l.i l.batch.groups.now);
  files : l.bytes.files ≡ flat_map (group_files l.resolved.layout.now) (take l.i l.batch.groups.now);
}
