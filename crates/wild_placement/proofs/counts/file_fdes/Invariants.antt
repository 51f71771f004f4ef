use Rattle.std.proofs.Common.{◌≡◌, ◌+◌, ◌-◌, ◌^◌, ◌<◌, drop, min}
use Rattle.wild_types.specs.Lists.{total}
use Rattle.wild_placement.specs.FrameInputs.{fde_count}
use Rattle.wild_placement.proofs.counts.file_fdes.Given as goal

abbrev pub invariant-loop-section : goal.invariant-loop-section
invariant-loop-section l = record {
  rest : min (2 ^ 64 - 1) (l.count + total (fde_count l.layout l.file) (drop l.section-index l.section-items)) ≡ min (2 ^ 64 - 1) (total (fde_count l.layout l.file) l.section-items);
  small : l.count < 2 ^ 64;
}
