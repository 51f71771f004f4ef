use Rattle.std.proofs.Common.{◌≡◌, ◌++◌, drop}
use Rattle.std.specs.List.{flat_map}
use Rattle.wild_types.specs.Lists.{total}
use Rattle.wild_placement.specs.FrameInputs.{kept_size}
use Rattle.wild_placement.specs.PlacedSections.{placed_sections, file_frames, address_after}
use Rattle.wild_contents.specs.PlacedSections.{section_given}
use Rattle.wild_contents.proofs.placed_sections.add_sections.Given as goal

abbrev pub invariant-loop-section : goal.invariant-loop-section
invariant-loop-section g l = record {
  bytes : l.bytes ++ flat_map (section_given l.role l.resolved.layout.now) (placed_sections l.resolved.layout.now l.file l.cursor (drop l.section-index l.file.sections))
      ≡ l.initial.bytes ++ flat_map (section_given l.role l.resolved.layout.now) (placed_sections l.resolved.layout.now l.file l.initial.cursor l.file.sections);
  next : address_after l.cursor (total (kept_size l.resolved.layout.now l.file) (drop l.section-index l.file.sections)) ≡ address_after l.initial.cursor (file_frames l.resolved.layout.now l.file);
}
