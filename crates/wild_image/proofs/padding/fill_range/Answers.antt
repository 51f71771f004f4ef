use Rattle.wild_image.proofs.Common.{◌+◌, ◌<◌, ◌≤◌, true, false, length, arith, ◌∙◌, get_or_default}
use Rattle.wild_image.proofs.PaddingLemmas.{fills_taken, fills_past, fills_free}
use Rattle.wild_image.proofs.padding.fill_range.Goals.{then-taken-k, else-taken-k}
use Rattle.wild_image.proofs.padding.fill_range.Goals as goal

pub loop-k-preserved : goal.loop-k-preserved
loop-k-preserved c =
    let f = c.loop-k.invariant.fills in
    let min = c.min.ensures in
    let from : c.args.at ≤ c.loop-k.k = omega (arith, c.loop-start.invariant.from, c.loop-k.auto.k) in
    let to : c.loop-k.k < c.args.end = omega (arith, c.loop-k-test.true, min, c.loop-start-test.true) in
    let long = f.marks.long in
    let low : c.loop-k.k < length c.loop-k.taken = omega (arith, to, c.requires.room, c.requires.marks, long) in
    let read = get_or_default c.loop-k.taken c.loop-k.k true false low in
    elim c.if-taken-k.branch [
      | then-taken-k w ↦
          (let p = fills_taken c.args.bytes c.args.at c.args.end c.loop-k.k c.loop-k.run c.args.taken.now c.loop-k.taken c.args.out.now c.loop-k.out from to c.requires.room.1 c.requires.marks (read ∙ w.if-taken-k.true) f in
          record { fills = rw (w.taken-is, w.out-is) p.0; count = w.run-is ∙ p.1 })
      | else-taken-k w ↦
          (let p = fills_free c.args.bytes c.args.at c.args.end c.loop-k.k c.loop-k.run c.args.taken.now c.loop-k.taken c.args.out.now c.loop-k.out from to c.requires.room.1 c.requires.marks (read ∙ w.if-taken-k.false) c.loop-k.invariant.count f in
          record { fills = rw (w.taken-is, w.out-is) p.0; count = w.run-is ∙ p.1 })
    ]

pub loop-start-preserved-then-are_taken : goal.loop-start-preserved-then-are_taken
loop-start-preserved-then-are_taken c =
    let l = c.loop-start in
    let min = c.min.ensures in
    let from = l.invariant.from in
    let some : l.start < l.start + c.min.result = omega (arith, min, c.loop-start-test.true) in
    let to : l.start + c.min.result ≤ c.args.end = omega (arith, min, c.loop-start-test.true) in
    let p = fills_past c.args.bytes c.args.at c.args.end l.start (l.start + c.min.result) c.args.taken.now l.taken c.args.out.now l.out from some to c.requires.room.1 c.requires.marks (c.are_taken.ensures c.if-are_taken.true) l.invariant.fills in
    record { from = omega (arith, from, some); to = to; fills = p.0; count = p.1 }
