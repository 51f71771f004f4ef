use Rattle.std.proofs.Common.{◌≡◌, ◌++◌, take}
use Rattle.std.specs.List.{flat_map}
use Rattle.wild_contents.specs.PlacedSections.{sorted_given}
use Rattle.wild_contents.proofs.placed_sections.add_sorted.Given as goal

abbrev pub invariant-loop-entry : goal.invariant-loop-entry
invariant-loop-entry g l = l.bytes ≡ l.initial.bytes ++ flat_map (sorted_given l.role l.resolved.layout.now) (take l.entry-index l.resolved.layout.now.sorted)
