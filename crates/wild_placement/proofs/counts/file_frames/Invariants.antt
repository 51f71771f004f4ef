use Rattle.std.proofs.Common.{◌≡◌, ◌+◌, ◌%◌, ◌^◌, drop}
use Rattle.wild_types.specs.Lists.{total}
use Rattle.wild_placement.specs.FrameInputs.{kept_size}
use Rattle.wild_placement.proofs.counts.file_frames.Given as goal

abbrev pub invariant-loop-section : goal.invariant-loop-section
invariant-loop-section l = (l.bytes + total (kept_size l.layout l.file) (drop l.section-index l.section-items)) % 2 ^ 64 ≡ total (kept_size l.layout l.file) l.section-items % 2 ^ 64
