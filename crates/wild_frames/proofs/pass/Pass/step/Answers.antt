use Rattle.std.proofs.Common.{sym, ◌∙◌, ap, arith, subst}
use Rattle.wild_frames.specs.Frames.{found}
use Rattle.wild_frames.proofs.PassLemmas.{passes, room_behind}
use Rattle.wild_frames.proofs.pass.Pass.step.Goals as goal

pub pass-requires-clause-room : goal.pass-requires-clause-room
pass-requires-clause-room g c = λ t.
    let s = g.F.FrameSource.frames c.args.frames.now in
    let w = room_behind s c.args.self.now c.requires.state c.look-found.result.0 c.requires.on c.look-found.ensures.found t in
    let h = c.byte_count-length.type_inv in
    let e = c.byte_count-length.ensures in
    omega (arith, w)

pub returns : goal.returns
returns g c = λ st on.
    let s = g.F.FrameSource.frames c.args.frames.now in
    passes s c.args.self.now c.pass.new.self st c.look-found.result.0 c.look-found.result.1 on c.look-found.ensures.found
    (record {
      own = c.look-found.ensures.own;
      few = c.look-found.ensures.few;
      new_at = c.pass.ensures.at;
      new_to = c.pass.ensures.to;
      passed = c.pass.ensures.relocation;
      stays = c.pass.ensures.stays;
      new_known = c.pass.ensures.known;
    })
