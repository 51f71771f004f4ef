use Rattle.wild_image.proofs.Common.{◌≡◌, false, ◌++◌, drop, take, flat_map, is_header_only_role, placed_from, placed_files, frames_at, files_errors, file_bytes, StandFrom}
use Rattle.wild_types.specs.declared.part.Role.TheVariants as role
use Rattle.wild_layout.specs.Content.{frames_bytes}
use Rattle.wild_image.proofs.buffer.add_files.Given as goal

abbrev pub invariant-loop-i : goal.invariant-loop-i
invariant-loop-i g l = record {
  faults : files_errors l.resolved.layout.now l.index l.next l.i (drop l.i l.file-items) ≡ files_errors l.resolved.layout.now l.index (frames_at l.resolved.layout.now l.group) 0 l.group.files;
  files : l.bytes.files ≡ l.initial.bytes.files ++ flat_map (file_bytes l.resolved.layout.now) (take l.i l.file-items);
  frames : is_header_only_role l.resolved.layout.now role.EhFrame ≡ false → l.bytes.frames ++ flat_map (frames_bytes l.resolved.layout.now) (placed_from l.resolved.layout.now l.next (drop l.i l.file-items)) ≡ l.initial.bytes.frames ++ flat_map (frames_bytes l.resolved.layout.now) (placed_from l.resolved.layout.now (frames_at l.resolved.layout.now l.group) l.group.files);
  tables : l.bytes.tables ≡ l.initial.bytes.tables;
  stands : StandFrom l.resolved.layout.now l.next (drop l.i l.file-items);
}
