use Rattle.std.proofs.Common.{◌≡◌, ◌+◌, ◌-◌, ◌^◌, ◌<◌, drop, min}
use Rattle.wild_types.specs.Lists.{total}
use Rattle.wild_placement.specs.PlacedSections.{frames_at, placed_from}
use Rattle.wild_needs.specs.Needs.{share}
use Rattle.wild_needs.proofs.share.total_of.Given as goal

abbrev pub invariant-loop-file : goal.invariant-loop-file
invariant-loop-file l = record {
  rest : min (2 ^ 64 - 1) (l.sum + total (share l.layout l.fn.role) (placed_from l.layout l.at (drop l.file-index l.file-items))) ≡ min (2 ^ 64 - 1) (total (share l.layout l.fn.role) (placed_from l.layout (frames_at l.layout l.group) l.file-items));
  small : l.sum < 2 ^ 64;
}
