use Rattle.std.proofs.Common.{◌≡◌, ◌-◌, length}
use Rattle.std.specs.List.{flat_map, range_with_len}
use Rattle.wild_sections.specs.WrittenDecisions.{extent_at, decided_extents, ascends}
use Rattle.wild_sections.proofs.overlap.is_ascending.Given as goal

abbrev pub invariant-loop-i : goal.invariant-loop-i
invariant-loop-i l =
    ascends l.reach (flat_map (extent_at l.relocations l.origins l.decisions) (range_with_len l.i (length l.decisions - l.i))) ≡ ascends 0 (decided_extents l.relocations l.origins l.decisions)
