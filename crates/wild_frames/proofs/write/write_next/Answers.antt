use Rattle.std.proofs.Common.{sym, ◌∙◌, arith}
use Rattle.wild_frames.specs.Frames.{found_bytes}
use Rattle.wild_frames.proofs.WriteLemmas.{room_ahead, written_on, written_last, errors_last, refuses_at, front_written}
use Rattle.wild_frames.proofs.write.write_next.Goals as goal

pub overflow_add-to : goal.overflow_add-to
overflow_add-to g c =
    let r = room_ahead (g.F.FrameSource.frames c.args.frames.now) c.args.walk.now c.step.new.self c.args.out.now c.in_ok-found.found c.requires c.in_ok-found.ensures.next in
    let n = c.count_bytes-count.ensures in
    omega (arith, r, n)

pub slice_bounds-write_found-end : goal.slice_bounds-write_found-end
slice_bounds-write_found-end g c =
    let r = room_ahead (g.F.FrameSource.frames c.args.frames.now) c.args.walk.now c.step.new.self c.args.out.now c.in_ok-found.found c.requires c.in_ok-found.ensures.next in
    let n = c.count_bytes-count.ensures in
    omega (arith, r, n)

pub returns-in-Err-clause-faults : goal.returns-in-Err-clause-faults
returns-in-Err-clause-faults g c = refuses_at (g.F.FrameSource.frames c.args.frames.now) c.args.walk.now c.step.new.self c.args.out.now c.in_ok-found.found c.in-Err.error c.requires c.in_ok-found.ensures.next c.in-Err.ensures.faults

pub returns-in-Ok-clause-none : goal.returns-in-Ok-clause-none
returns-in-Ok-clause-none g c = λ t.
    errors_last (g.F.FrameSource.frames c.args.frames.now) c.args.walk.now c.step.new.self c.args.out.now c.in_ok-found.found c.requires c.in_ok-found.ensures.next (sym c.walk_continues.ensures ∙ t) c.in-Ok.ensures.faults

pub returns-in-Ok-clause-bytes : goal.returns-in-Ok-clause-bytes
returns-in-Ok-clause-bytes g c = λ t.
    let s = g.F.FrameSource.frames c.args.frames.now in
    let r = room_ahead s c.args.walk.now c.step.new.self c.args.out.now c.in_ok-found.found c.requires c.in_ok-found.ensures.next in
    let f = front_written c.args.walk.now.to c.count_bytes-count.result c.args.out.now c.write_found.new.room (found_bytes s c.in_ok-found.found) c.in-Ok.ensures.bytes c.count_bytes-count.ensures r in
    written_last s c.args.walk.now c.step.new.self c.args.out.now _ c.in_ok-found.found c.requires c.in_ok-found.ensures.next (sym c.walk_continues.ensures ∙ t) f.same f.front

pub returns-in-Ok-clause-more : goal.returns-in-Ok-clause-more
returns-in-Ok-clause-more g c = λ t.
    let s = g.F.FrameSource.frames c.args.frames.now in
    let r = room_ahead s c.args.walk.now c.step.new.self c.args.out.now c.in_ok-found.found c.requires c.in_ok-found.ensures.next in
    let f = front_written c.args.walk.now.to c.count_bytes-count.result c.args.out.now c.write_found.new.room (found_bytes s c.in_ok-found.found) c.in-Ok.ensures.bytes c.count_bytes-count.ensures r in
    let u = sym c.walk_continues.ensures ∙ t in
    written_on s c.args.walk.now c.step.new.self c.args.out.now _ c.in_ok-found.found c.requires c.in_ok-found.ensures.next c.in_ok-found.ensures.lies u c.in_ok-found.ensures.state (c.in_ok-found.ensures.fits u) f.same f.front
