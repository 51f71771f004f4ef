use Rattle.std.proofs.Common.{◌≡◌, ℕ, subst, sym, ap, arith}
use Rattle.wild_frames.specs.declared.entry.Found.{Found}
use Rattle.wild_frames.specs.Frames.{Frames, State, after, found}
use Rattle.wild_frames.specs.Walks.{state_of, Fits, IsNext}
use Rattle.wild_frames.proofs.WalkLemmas.{Facts, found_facts, next_found, goes, lies, moves_back, are_own, fits_after}
use Rattle.wild_frames.proofs.walk.Walk.step.Goals as goal

facts_at : (s : Frames) (st : State) (f : Found) → f ≡ found s st → Facts s st f
facts_at s st f e = subst (Facts s st) (sym e) (found_facts s st)

next_at : (s : Frames) (st to : State) (f : Found) → f ≡ found s st → to ≡ after st f → IsNext s st to f
next_at s st to f e t = subst (λ (x : State). IsNext s st x f) (sym t) (subst (λ (h : Found). IsNext s st (after st h) h) (sym e) (next_found s st))

pub pass-requires-clause-room : goal.pass-requires-clause-room
pass-requires-clause-room g c = λ t.
    let s = g.F.FrameSource.frames c.args.frames.now in
    let st = state_of c.args.self.now in
    let go = goes s st c.look-found.result.0 (facts_at s st c.look-found.result.0 c.look-found.ensures.found) t in
    let w = go.within in
    let h = c.byte_count-length.type_inv in
    let e = c.byte_count-length.ensures in
    omega (arith, w)

pub returns-clause-next : goal.returns-clause-next
returns-clause-next g c = next_at (g.F.FrameSource.frames c.args.frames.now) (state_of c.args.self.now) (state_of c.pass.new.self) c.look-found.result.0 c.look-found.ensures.found c.in_ok-pass.ensures.state

pub returns-clause-lies : goal.returns-clause-lies
returns-clause-lies g c =
    let s = g.F.FrameSource.frames c.args.frames.now in
    let st = state_of c.args.self.now in
    lies s st c.args.self.now.relocation c.look-found.result.0 c.requires (facts_at s st c.look-found.result.0 c.look-found.ensures.found)

pub returns-clause-back : goal.returns-clause-back
returns-clause-back g c =
    let s = g.F.FrameSource.frames c.args.frames.now in
    let st = state_of c.args.self.now in
    moves_back s st c.args.self.now.relocation c.look-found.result.0 c.requires (facts_at s st c.look-found.result.0 c.look-found.ensures.found)

pub returns-clause-own : goal.returns-clause-own
returns-clause-own g c =
    let s = g.F.FrameSource.frames c.args.frames.now in
    let st = state_of c.args.self.now in
    are_own s st c.look-found.result.0 c.args.self.now.relocation c.look-found.result.1 c.pass.new.self.relocation
    (facts_at s st c.look-found.result.0 c.look-found.ensures.found) c.look-found.ensures.own c.in_ok-pass.ensures.relocation

pub returns-clause-further : goal.returns-clause-further
returns-clause-further g c = λ t.
    let s = g.F.FrameSource.frames c.args.frames.now in
    let st = state_of c.args.self.now in
    let go = goes s st c.look-found.result.0 (facts_at s st c.look-found.result.0 c.look-found.ensures.found) t in
    let e = ap (λ (x : State). x.at) c.in_ok-pass.ensures.state in
    let m = go.more in
    let w = go.within in
    (omega (arith, e, m), omega (arith, e, w))

pub returns-clause-fits : goal.returns-clause-fits
returns-clause-fits g c = λ t.
    let s = g.F.FrameSource.frames c.args.frames.now in
    let st = state_of c.args.self.now in
    let f = fits_after s st c.look-found.result.0 c.args.self.now.relocation c.look-found.result.1 c.requires (facts_at s st c.look-found.result.0 c.look-found.ensures.found) t (c.look-found.ensures.own t) in
    subst (λ (x : State). Fits s x c.pass.new.self.relocation) (sym c.in_ok-pass.ensures.state)
    (subst (λ (j : ℕ). Fits s (after st c.look-found.result.0) j) (sym (c.in_ok-pass.ensures.relocation t)) f)
