use Rattle.std.proofs.Common.{◌≡◌, ℕ, ◌<◌, ◌+◌, true, length, refl, ap, arith}
use Rattle.std.specs.Prelude.{nat_lt}
use Rattle.std.proofs.lemmas.Bool.{lt-ltb}
use Rattle.wild_frames.specs.Frames.{found}
use Rattle.wild_frames.proofs.pass.Pass.look.Goals as goal

pub returns-then-bytes-at-lt8-clause-found : goal.returns-then-bytes-at-lt8-clause-found
unfolding found
returns-then-bytes-at-lt8-clause-found g c =
    let s = g.F.FrameSource.frames c.args.frames.now in
    let e = ap length c.bytes-bytes.ensures in
    let l = c.if-bytes-at-lt8.true in
    let t : nat_lt (length s.bytes) (c.args.self.now.at + 8) ≡ true = lt-ltb (length s.bytes) (c.args.self.now.at + 8) (omega (arith, e, l)) in
    rw t refl
