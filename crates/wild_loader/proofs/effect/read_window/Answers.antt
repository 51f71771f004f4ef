use Rattle.std.proofs.Common.{◌≡◌, ℕ, ◌<◌, ◌≤◌, length, take, sym, ◌∙◌, arith, subst}
use Rattle.std.proofs.lemmas.List.{length-set}
use Rattle.wild_loader.specs.Effect.{window}
use Rattle.wild_loader.proofs.WindowLemmas.{window_more, window_ends, window_whole}
use Rattle.wild_loader.proofs.effect.read_window.Goals as goal

pub returns-in-None : goal.returns-in-None
returns-in-None c = window_ends c.args.memory.now c.args.address 22 c.loop-i.i c.loop-i.bytes c.loop-i-test.true (sym c.byte_below.ensures ∙ c.in-None.is) c.loop-i.invariant.0

pub loop-i-preserved : goal.loop-i-preserved
loop-i-preserved c =
    let long : length c.loop-i.bytes ≡ 22 = c.loop-i.invariant.1 in
    let low : c.loop-i.i < 22 = c.loop-i-test.true in
    let more = window_more c.args.memory.now c.args.address 22 c.loop-i.i c.in-Some.byte c.loop-i.bytes low (omega arith) (sym c.byte_below.ensures ∙ c.in-Some.is) c.loop-i.invariant.0 in
    (more, (let same = length-set c.loop-i.bytes c.loop-i.i c.in-Some.byte in same ∙ long))

pub returns : goal.returns
returns c =
    let end : c.loop-i.i ≤ 22 = c.loop-i.auto.i-end in
    let above : 22 ≤ c.loop-i.i = c.loop-i-test.false in
    let e : c.loop-i.i ≡ 22 = omega arith in
    subst (λ (i : ℕ). take i c.loop-i.bytes ≡ window c.args.memory.now c.args.address 22) e (window_whole c.args.memory.now c.args.address 22 c.loop-i.i c.loop-i.bytes above c.loop-i.invariant.0)
