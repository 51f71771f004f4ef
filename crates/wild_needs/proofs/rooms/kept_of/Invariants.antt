use Rattle.std.proofs.Common.{◌≡◌, ◌+◌, ◌-◌, ◌^◌, ◌<◌, drop, min}
use Rattle.wild_types.specs.Lists.{total}
use Rattle.wild_placement.specs.FrameInputs.{kept_size}
use Rattle.wild_needs.proofs.rooms.kept_of.Given as goal

abbrev pub invariant-loop-section : goal.invariant-loop-section
invariant-loop-section l = record {
  rest : min (2 ^ 64 - 1) (l.sum + total (kept_size l.layout l.file) (drop l.section-index l.section-items)) ≡ min (2 ^ 64 - 1) (total (kept_size l.layout l.file) l.section-items);
  small : l.sum < 2 ^ 64;
}
