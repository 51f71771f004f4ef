use Rattle.wild_image.proofs.Common.{◌≡◌, ◌+◌, take, overlay_prefix, group_pieces, flat_map_from, HasStarts, group_tables, group_files}
use Rattle.wild_image.proofs.AppendLemmas.{IsPlacedAfter}
use Rattle.wild_image.proofs.append.append_batch.Given as goal

abbrev pub invariant-loop-i : goal.invariant-loop-i
invariant-loop-i l = record {
  image : l.out ≡ overlay_prefix (flat_map_from (group_pieces l.layout) l.batch.first (take l.i l.batch.groups.now)) l.initial.out;
  tables : IsPlacedAfter (group_tables l.layout) l.batch.groups.now l.bytes.tables l.tables l.i;
  files : IsPlacedAfter (group_files l.layout) l.batch.groups.now l.bytes.files l.files l.i;
  starts : HasStarts l.layout (l.batch.first + l.i) l.starts;
}
