use Rattle.std.proofs.Common.{◌≡◌, ◌++◌, drop}
use Rattle.wild_types.specs.Lists.{total}
use Rattle.wild_placement.specs.FrameInputs.{kept_size}
use Rattle.wild_placement.specs.PlacedSections.{file_frames, address_after}
use Rattle.wild_layout.specs.SearchTable.{sections_fdes}
use Rattle.wild_contents.proofs.search_table.add_file.Given as goal

abbrev pub invariant-loop-section : goal.invariant-loop-section
invariant-loop-section g l = record {
  fdes : l.fdes.items ++ sections_fdes l.resolved.layout.now l.file l.cursor (drop l.section-index l.file.sections) ≡ l.initial.fdes.items ++ sections_fdes l.resolved.layout.now l.file l.initial.cursor l.file.sections;
  next : address_after l.cursor (total (kept_size l.resolved.layout.now l.file) (drop l.section-index l.file.sections)) ≡ address_after l.initial.cursor (file_frames l.resolved.layout.now l.file);
}
