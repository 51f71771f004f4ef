use Rattle.std.proofs.Common.{List, subst}
use Rattle.wild_types.specs.declared.input.InputRelocation.{InputRelocation}
use Rattle.wild_placement.specs.FrameInputs.{frames_of}
use Rattle.wild_placement.specs.PlacedSections.{moved_relocations}
use Rattle.wild_words.specs.Runs.{SinkRun}
use Rattle.wild_words.proofs.RunLemmas.{ran_none}
use Rattle.wild_placement.proofs.FrameLemmas.{placed_relocations_none, placed_relocations_whole}
use Rattle.wild_placement.proofs.give.give_frames.Goals as goal

pub returns-in-Ok : goal.returns-in-Ok
returns-in-Ok g c =
    let s = frames_of c.args.frames.now.layout.now c.args.frames.now.file.now c.args.frames.now.section.now in
    subst (λ (rs : List InputRelocation). SinkRun g.S.Sink.goes g.S.Sink.refuses c.args.sink.now rs c.give_kept.result c.give_kept.new.sink) (placed_relocations_whole s c.in-Ok.ensures.none) c.give_kept.ensures

pub returns-in-Err : goal.returns-in-Err
returns-in-Err g c =
    let s = frames_of c.args.frames.now.layout.now c.args.frames.now.file.now c.args.frames.now.section.now in
    ran_none (moved_relocations s) (placed_relocations_none s c.in-Err.field-0 c.in-Err.ensures)
