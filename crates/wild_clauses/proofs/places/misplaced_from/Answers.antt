use Rattle.std.proofs.Common.{◌≡◌, ◌+◌, get_or, sym, ◌∙◌, true, false}
use Rattle.wild_plan_rules.proofs.BlockLemmas.{group_placed}
use Rattle.wild_clauses.proofs.MisplacedLemmas.{misplaced-here, misplaced-next}
use Rattle.wild_clauses.proofs.RoomLemmas.{room_here, room_behind}
use Rattle.wild_plan_rules.specs.Contents.{parts_placed}
use Rattle.wild_clauses.proofs.places.misplaced_from.Goals as goal

pub returns-then-not-pass_files : goal.returns-then-not-pass_files
returns-then-not-pass_files c =
    let l = c.args.layout.now in
    let g = c.group-item.result in
    let passed = rw (c.move_starts.ensures.ends, c.move_starts.ensures.begins, c.as_slice.ensures) at c.pass_files.ensures in
    let out : parts_placed l g c.args.part c.loop-i.starts ≡ false = sym (group_placed l c.args.part c.loop-i.starts g) ∙ passed ∙ c.if-not-pass_files.true in
    let here = misplaced-here l c.args.part c.loop-i.i c.loop-i.starts c.as_slice-group-items.result.now g c.loop-i-test.true c.group-item.is out in
    rw (← c.as_slice-group-items.ensures) (sym here ∙ c.loop-i.invariant.rest)

pub loop-i-preserved : goal.loop-i-preserved
loop-i-preserved c =
    let l = c.args.layout.now in
    let g = c.group-item.result in
    let passed = rw (c.move_starts.ensures.ends, c.move_starts.ensures.begins, c.as_slice.ensures) at c.pass_files.ensures in
    let within : parts_placed l g c.args.part c.loop-i.starts ≡ true = sym (group_placed l c.args.part c.loop-i.starts g) ∙ passed ∙ c.if-not-pass_files.false in
    let next = misplaced-next l c.args.part c.loop-i.i c.loop-i.starts c.as_slice-group-items.result.now g c.loop-i-test.true c.group-item.is within in
    record {
      rest = rw c.move_starts.ensures.ends (sym next ∙ c.loop-i.invariant.rest);
      room = room_behind c.as_slice-group-items.result.now c.loop-i.i c.args.part c.loop-i.starts c.move_starts.new.starts g c.loop-i-test.true c.group-item.is c.move_starts.ensures.ends c.loop-i.invariant.room;
    }

pub move_starts-requires-clause-room : goal.move_starts-requires-clause-room
move_starts-requires-clause-room c k lt = room_here c.as_slice-group-items.result.now c.loop-i.i (c.args.part + k) (get_or c.loop-i.starts k 0) c.group-item.result c.loop-i-test.true c.group-item.is (c.loop-i.invariant.room k lt)
