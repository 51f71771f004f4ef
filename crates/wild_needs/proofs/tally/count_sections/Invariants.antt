use Rattle.std.proofs.Common.{◌≡◌, ◌+◌, ◌-◌, ◌^◌, ◌<◌, drop, min}
use Rattle.wild_types.specs.Lists.{total}
use Rattle.wild_placement.specs.PlacedSections.{placed_sections}
use Rattle.wild_needs.specs.Tallies.{counted_in}
use Rattle.wild_needs.proofs.tally.count_sections.Given as goal

abbrev pub invariant-loop-section : goal.invariant-loop-section
invariant-loop-section l = record {
  rest : min (2 ^ 64 - 1) (l.sum + total (counted_in l.fn.kind l.layout) (placed_sections l.layout l.file l.at (drop l.section-index l.section-items))) ≡ min (2 ^ 64 - 1) (total (counted_in l.fn.kind l.layout) (placed_sections l.layout l.file l.initial.at l.section-items));
  small : l.sum < 2 ^ 64;
}
