use Rattle.std.proofs.Common.{◌^◌, ◌<◌, arith}
use Rattle.wild_types.specs.declared.file.File.{File}
use Rattle.wild_types.specs.declared.file.Group.{Group}
use Rattle.wild_types.specs.Lists.{total}
use Rattle.wild_placement.specs.FrameInputs.{fde_count}
use Rattle.wild_placement.proofs.SumLemmas.{sum_next}
use Rattle.wild_placement.proofs.counts.all_fdes.Goals as goal

pub loop-group-preserved : goal.loop-group-preserved
loop-group-preserved c = record {
  rest = sum_next (λ (g : Group). total (λ (f : File). total (fde_count c.args.layout.now f) f.sections) g.files) c.as_slice-group-items.result.now c.loop-group.group-index c.group-item.result
      c.loop-group.count c.group_fdes.result c.saturating_add-count.result c.loop-group-test.true c.group-item.is c.group_fdes.ensures c.saturating_add-count.ensures c.loop-group.invariant.rest;
  small = let e = c.saturating_add-count.ensures in omega (arith, e);
}
