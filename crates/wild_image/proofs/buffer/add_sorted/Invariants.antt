use Rattle.wild_image.proofs.Common.{◌≡◌, [], ◌++◌, take, flat_map, sorted_errors, sorted_owned}
use Rattle.wild_image.proofs.buffer.add_sorted.Given as goal

abbrev pub invariant-loop-entry : goal.invariant-loop-entry
invariant-loop-entry g l = record {
  faults : flat_map (sorted_errors l.resolved.layout.now) (take l.entry-index l.entry-items) ≡ [];
  files : l.bytes.files ≡ l.initial.bytes.files ++ flat_map (sorted_owned l.resolved.layout.now) (take l.entry-index l.entry-items);
  frames : l.bytes.frames ≡ l.initial.bytes.frames;
  tables : l.bytes.tables ≡ l.initial.bytes.tables;
}
