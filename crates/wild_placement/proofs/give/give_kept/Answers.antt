use Rattle.std.proofs.Common.{◌≡◌, ◌<◌, ◌^◌, length, List, ℕ, sym, ◌∙◌, ap, subst, arith}
use Rattle.std.specs.Prelude.{slice_range}
use Rattle.std.proofs.lemmas.Result.{err_from_is_err_and}
use Rattle.wild_types.specs.declared.input.InputRelocation.{InputRelocation}
use Rattle.wild_placement.specs.FrameInputs.{frames_of}
use Rattle.wild_placement.proofs.FrameLemmas.{low_own, gives_on, gives_out, gives_last}
use Rattle.wild_placement.proofs.give.give_kept.Goals as goal

pub give_found-requires : goal.give_found-requires
give_found-requires g c =
    let s = frames_of c.args.frames.now.layout.now c.args.frames.now.file.now c.args.frames.now.section.now in
    let i = c.loop-found.invariant in
    let w : length s.bytes < 2 ^ 64 = (let e = ap length c.bytes-room.ensures in let h = c.bytes-room.type_inv in omega (arith, e, h.0)) in
    low_own s c.loop-found.walk c.step-found.new.self i.state c.step-found.result _ w (c.step-found.ensures i.state i.on)
    (ap (λ (rs : List InputRelocation). slice_range rs c.loop-found.walk.relocation c.step-found.new.self.relocation) c.relocations.ensures)

pub loop-found-preserved : goal.loop-found-preserved
loop-found-preserved g c =
    let s = frames_of c.args.frames.now.layout.now c.args.frames.now.file.now c.args.frames.now.section.now in
    let i = c.loop-found.invariant in
    gives_on s c.loop-found.walk c.step-found.new.self c.step-found.result _ i (c.step-found.ensures i.state i.on)
    (ap (λ (rs : List InputRelocation). slice_range rs c.loop-found.walk.relocation c.step-found.new.self.relocation) c.relocations.ensures)
    (sym c.walk_continues.ensures ∙ c.if-not-walk_continues.false) c.in_ok-give_found.ensures

pub returns-in_err-give_found : goal.returns-in_err-give_found
returns-in_err-give_found g c =
    let s = frames_of c.args.frames.now.layout.now c.args.frames.now.file.now c.args.frames.now.section.now in
    let i = c.loop-found.invariant in
    let p = err_from_is_err_and c.from_residual.result c.from_residual.ensures.1 in
    rw (p.1, p.2) (gives_out s c.loop-found.walk c.step-found.new.self c.step-found.result _ i (c.step-found.ensures i.state i.on)
    (ap (λ (rs : List InputRelocation). slice_range rs c.loop-found.walk.relocation c.step-found.new.self.relocation) c.relocations.ensures)
    c.in_err-give_found.ensures)
