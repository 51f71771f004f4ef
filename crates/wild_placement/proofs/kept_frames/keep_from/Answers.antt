use Rattle.std.proofs.Common.{◌≡◌, ◌<◌, ◌^◌, length, List, ℕ, sym, ◌∙◌, ap, subst, arith}
use Rattle.std.specs.Prelude.{slice_range}
use Rattle.wild_types.specs.declared.input.InputRelocation.{InputRelocation}
use Rattle.wild_frames.specs.Walks.{AreOwn}
use Rattle.wild_placement.specs.FrameInputs.{frames_of}
use Rattle.wild_placement.proofs.FrameLemmas.{stay_low}
use Rattle.wild_placement.proofs.KeepLemmas.{keeps_start, keeps_on, keeps_all, keeps_fault}
use Rattle.wild_placement.proofs.kept_frames.keep_from.Goals as goal

pub loop-kept-init : goal.loop-kept-init
loop-kept-init c =
    let s = frames_of c.args.frames.now.layout.now c.args.frames.now.file.now c.args.frames.now.section.now in
    keeps_start s c.args.first c.new-kept.result.bytes.items c.new-kept.result.origins.items c.new-kept.result.moved.items c.new-kept.result.fault c.requires c.new-kept.ensures.bytes c.new-kept.ensures.origins c.new-kept.ensures.moved c.new-kept.ensures.fault
