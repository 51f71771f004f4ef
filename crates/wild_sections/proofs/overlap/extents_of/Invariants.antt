use Rattle.std.proofs.Common.{◌≡◌}
use Rattle.std.specs.List.{flat_map, range_with_len}
use Rattle.wild_sections.specs.WrittenDecisions.{extent_at}
use Rattle.wild_sections.proofs.overlap.extents_of.Given as goal

abbrev pub invariant-loop-i : goal.invariant-loop-i
invariant-loop-i l = l.extents.items ≡ flat_map (extent_at l.relocations l.origins l.decisions) (range_with_len 0 l.i)
