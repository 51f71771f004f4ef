use Rattle.wild_image.proofs.Common.{◌≡◌, true, false, List, rules, refl, sym, ◌∙◌, subst, Error, InputSection, Answers, is_omitted, is_read, on_ok_weaker}
use Rattle.wild_image.proofs.RelaOrGroupLemmas.{ok_holds}
use Rattle.wild_image.proofs.PlacedLemmas.{no_frames_added, plain_frames, dropped_owned, dropped_frames, dropped_faults, unread_faults, faults_kept}
use Rattle.wild_image.proofs.buffer.add_placed.Goals as goal

-- ---- a section that is dropped

pub returns-then-is_omitted-clause-faults : goal.returns-then-is_omitted-clause-faults
returns-then-is_omitted-clause-faults g c =
    let l = c.args.resolved.now.layout.now in
    let dropped = subst (λ (s : InputSection). is_omitted l s ≡ true) c.section-section.ensures (sym c.is_omitted.ensures ∙ c.if-is_omitted.true) in
    dropped_faults l c.args.place.group c.args.place.file c.args.place.section c.args.file.now c.args.placed_input.now dropped

pub returns-then-is_omitted-clause-files : goal.returns-then-is_omitted-clause-files
returns-then-is_omitted-clause-files g c =
    let l = c.args.resolved.now.layout.now in
    let dropped = subst (λ (s : InputSection). is_omitted l s ≡ true) c.section-section.ensures (sym c.is_omitted.ensures ∙ c.if-is_omitted.true) in
    dropped_owned l c.args.file.now c.args.placed_input.now.section c.args.bytes.now.files dropped

pub returns-then-is_omitted-clause-frames : goal.returns-then-is_omitted-clause-frames
returns-then-is_omitted-clause-frames g c =
    let l = c.args.resolved.now.layout.now in
    let dropped = subst (λ (s : InputSection). is_omitted l s ≡ true) c.section-section.ensures (sym c.is_omitted.ensures ∙ c.if-is_omitted.true) in
    dropped_frames l c.args.file.now c.args.placed_input.now.section c.args.bytes.now.frames dropped

pub returns-then-is_omitted-clause-plain : goal.returns-then-is_omitted-clause-plain
returns-then-is_omitted-clause-plain g c = λ other. refl

-- ---- one that is read

pub add_read-requires-clause-written : goal.add_read-requires-clause-written
add_read-requires-clause-written g c =
    let l = c.args.resolved.now.layout.now in
    subst (λ (s : InputSection). is_omitted l s ≡ false) c.section-section.ensures (sym c.is_omitted.ensures ∙ c.if-is_omitted.false)

pub returns-then-is_read-clause-faults : goal.returns-then-is_read-clause-faults
returns-then-is_read-clause-faults g c =
    let l = c.args.resolved.now.layout.now in
    let kept = subst (λ (s : InputSection). is_omitted l s ≡ false) c.section-section.ensures (sym c.is_omitted.ensures ∙ c.if-is_omitted.false) in
    subst (λ (es : List Error). Answers c.add_read.result es) (sym (faults_kept l c.args.place.group c.args.place.file c.args.place.section c.args.file.now c.args.placed_input.now kept)) c.add_read.ensures.faults

pub returns-then-is_read-clause-frames : goal.returns-then-is_read-clause-frames
returns-then-is_read-clause-frames g c = on_ok_weaker c.add_read.result (λ h written. h) c.add_read.ensures.frames

pub returns-then-is_read-clause-plain : goal.returns-then-is_read-clause-plain
returns-then-is_read-clause-plain g c =
    on_ok_weaker c.add_read.result (λ h other. plain_frames c.args.resolved.now.layout.now c.args.file.now c.args.placed_input.now.section c.args.bytes.now.frames c.add_read.new.bytes.frames other h) c.add_read.ensures.frames

-- ---- one without data

pub returns-then-section-clause-faults : goal.returns-then-section-clause-faults
returns-then-section-clause-faults g c =
    let none : c.args.placed_input.now.section.nobits ≡ true = search rules in
    unread_faults c.args.resolved.now.layout.now c.args.place.group c.args.place.file c.args.place.section c.args.file.now c.args.placed_input.now none

pub returns-then-section-clause-frames : goal.returns-then-section-clause-frames
returns-then-section-clause-frames g c =
    let s = c.args.placed_input.now.section in
    let unread : is_read s ≡ false = search rules in
    λ written. no_frames_added c.args.resolved.now.layout.now c.args.file.now s c.args.bytes.now.frames c.requires.whole unread

pub returns-then-section-clause-plain : goal.returns-then-section-clause-plain
returns-then-section-clause-plain g c = λ other. refl

-- ---- any other

pub add_unread-requires-clause-written : goal.add_unread-requires-clause-written
add_unread-requires-clause-written g c =
    let l = c.args.resolved.now.layout.now in
    subst (λ (s : InputSection). is_omitted l s ≡ false) c.section-section.ensures (sym c.is_omitted.ensures ∙ c.if-is_omitted.false)

pub returns-clause-faults : goal.returns-clause-faults
returns-clause-faults g c =
    let l = c.args.resolved.now.layout.now in
    let kept = subst (λ (s : InputSection). is_omitted l s ≡ false) c.section-section.ensures (sym c.is_omitted.ensures ∙ c.if-is_omitted.false) in
    subst (λ (es : List Error). Answers c.add_unread.result es) (sym (faults_kept l c.args.place.group c.args.place.file c.args.place.section c.args.file.now c.args.placed_input.now kept)) c.add_unread.ensures.faults

pub returns-clause-frames : goal.returns-clause-frames
returns-clause-frames g c =
    let s = c.args.placed_input.now.section in
    let unread : is_read s ≡ false = search rules in
    ok_holds c.add_unread.result (λ written. no_frames_added c.args.resolved.now.layout.now c.args.file.now s c.args.bytes.now.frames c.requires.whole unread)

pub returns-clause-plain : goal.returns-clause-plain
returns-clause-plain g c = ok_holds c.add_unread.result (λ other. refl)
