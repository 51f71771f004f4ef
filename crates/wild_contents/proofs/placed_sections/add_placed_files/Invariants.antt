use Rattle.std.proofs.Common.{◌≡◌, ◌++◌, drop}
use Rattle.std.specs.List.{flat_map}
use Rattle.wild_placement.specs.PlacedSections.{placed_from, placed_files}
use Rattle.wild_layout.specs.Content.{file_content}
use Rattle.wild_contents.proofs.placed_sections.add_placed_files.Given as goal

abbrev pub invariant-loop-file : goal.invariant-loop-file
invariant-loop-file g l = l.bytes ++ flat_map (file_content l.resolved.layout.now l.role) (placed_from l.resolved.layout.now l.cursor (drop l.file-index l.group.files)) ≡ l.initial.bytes ++ flat_map (file_content l.resolved.layout.now l.role) (placed_files l.resolved.layout.now l.group)
