use Rattle.std.proofs.Common.{◌+◌, ap, sym, ◌∙◌, arith}
use Rattle.wild_frames.proofs.CountLemmas.{counted_start, counted_on, counted_bytes, counted_fdes, small_last, lies_brief}
use Rattle.wild_frames.proofs.count.count_rest.Goals as goal

pub loop-walk-init : goal.loop-walk-init
loop-walk-init g c = counted_start (g.F.FrameSource.frames c.args.frames.now) c.args.first c.requires

pub overflow_add-bytes : goal.overflow_add-bytes
overflow_add-bytes g c =
    let i = c.loop-walk.invariant in
    let m = small_last (g.F.FrameSource.frames c.args.frames.now) c.loop-walk.walk c.step-found.new.self c.loop-walk.fdes c.step-found.result i (c.step-found.ensures i.state i.on) (sym c.walk_continues.ensures ∙ c.if-not-walk_continues.true) in
    let e = c.count_bytes.ensures in
    let h = c.byte_count-length.type_inv in
    let b = c.byte_count-length.ensures in
    omega (arith, m, e)

pub returns-then-not-walk_continues-clause-bytes : goal.returns-then-not-walk_continues-clause-bytes
returns-then-not-walk_continues-clause-bytes g c =
    let i = c.loop-walk.invariant in
    let m = counted_bytes (g.F.FrameSource.frames c.args.frames.now) c.loop-walk.walk c.step-found.new.self c.loop-walk.fdes c.step-found.result i (c.step-found.ensures i.state i.on) (sym c.walk_continues.ensures ∙ c.if-not-walk_continues.true) in
    let e = c.count_bytes.ensures in
    omega (arith, m, e)

pub returns-then-not-walk_continues-clause-fdes : goal.returns-then-not-walk_continues-clause-fdes
returns-then-not-walk_continues-clause-fdes g c =
    let i = c.loop-walk.invariant in
    counted_fdes (g.F.FrameSource.frames c.args.frames.now) c.loop-walk.walk c.step-found.new.self c.loop-walk.fdes c.step-found.result i (c.step-found.ensures i.state i.on) (sym c.walk_continues.ensures ∙ c.if-not-walk_continues.true)

pub loop-walk-preserved : goal.loop-walk-preserved
loop-walk-preserved g c =
    let i = c.loop-walk.invariant in
    counted_on (g.F.FrameSource.frames c.args.frames.now) c.loop-walk.walk c.step-found.new.self c.loop-walk.fdes _ c.step-found.result i (c.step-found.ensures i.state i.on) (sym c.walk_continues.ensures ∙ c.if-not-walk_continues.false)
    (ap (λ n. c.loop-walk.fdes + n) c.count_fdes-fdes.ensures)
