use Rattle.std.proofs.Common.{List, ap, ◌∙◌}
use Rattle.std.specs.Prelude.{option_to_list}
use Rattle.wild_types.specs.declared.input.InputRelocation.{InputRelocation}
use Rattle.wild_types.specs.declared.input.InputSection.{InputSection}
use Rattle.wild_placement.specs.PlacedInputs.{PlacedContent, placed_frames_of}
use Rattle.wild_placement.proofs.PlacedLemmas.{stood_as, stood_by, frames_stood}
use Rattle.wild_placement.proofs.placed.place_frames.Goals as goal

pub returns : goal.returns
returns c =
    let s = c.args.section.now in
    let k = c.in_ok-kept.kept in
    let fault = option_to_list k.fault in
    ap (λ (x : InputSection). stood_as x c.from_vec.result fault) c.placed_frames.ensures
    ∙ ap (λ (o : List InputRelocation). stood_by s c.args.at k.bytes.items o k.moved.items fault) c.from_vec.ensures
    ∙ frames_stood c.args.layout.now c.args.file.now c.args.at s k.bytes.items k.origins.items k.moved.items fault c.in_ok-kept.ensures.kept c.in_ok-kept.ensures.fault
