use Rattle.std.proofs.Common.{◌≡◌, ◌+◌, ℕ, ap, sym, ◌∙◌, arith}
use Rattle.wild_frames.specs.Passes.{reaches_offset}
use Rattle.wild_frames.proofs.PassLemmas.{comes_on}
use Rattle.wild_frames.proofs.pass.reaches_offset.Goals as goal

pub loop-at-preserved : goal.loop-at-preserved
loop-at-preserved c =
    let bs = c.args.bytes.now in
    let x = c.args.to in
    ap (λ (n : ℕ). reaches_offset bs x (c.loop-at.at + (4 + n)) x) c.read_u32.ensures ∙ sym (comes_on bs x c.loop-at.at x (omega arith) c.loop-at-test.true) ∙ c.loop-at.invariant
