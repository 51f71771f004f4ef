use Rattle.std.proofs.Common.{◌≡◌, ◌+◌, ◌-◌, ◌^◌, ◌<◌, drop, min}
use Rattle.wild_types.specs.Lists.{total}
use Rattle.wild_types.specs.declared.file.File.{File}
use Rattle.wild_types.specs.declared.file.Group.{Group}
use Rattle.wild_placement.specs.FrameInputs.{fde_count}
use Rattle.wild_placement.proofs.counts.all_fdes.Given as goal

abbrev pub invariant-loop-group : goal.invariant-loop-group
invariant-loop-group l = record {
  rest : min (2 ^ 64 - 1) (l.count + total (λ (g : Group). total (λ (f : File). total (fde_count l.layout f) f.sections) g.files) (drop l.group-index l.group-items)) ≡ min (2 ^ 64 - 1) (total (λ (g : Group). total (λ (f : File). total (fde_count l.layout f) f.sections) g.files) l.group-items);
  small : l.count < 2 ^ 64;
}
