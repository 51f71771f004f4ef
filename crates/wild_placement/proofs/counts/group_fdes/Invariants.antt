use Rattle.std.proofs.Common.{◌≡◌, ◌+◌, ◌-◌, ◌^◌, ◌<◌, drop, min}
use Rattle.wild_types.specs.Lists.{total}
use Rattle.wild_types.specs.declared.file.File.{File}
use Rattle.wild_placement.specs.FrameInputs.{fde_count}
use Rattle.wild_placement.proofs.counts.group_fdes.Given as goal

abbrev pub invariant-loop-file : goal.invariant-loop-file
invariant-loop-file l = record {
  rest : min (2 ^ 64 - 1) (l.count + total (λ (f : File). total (fde_count l.layout f) f.sections) (drop l.file-index l.file-items)) ≡ min (2 ^ 64 - 1) (total (λ (f : File). total (fde_count l.layout f) f.sections) l.file-items);
  small : l.count < 2 ^ 64;
}
