use Rattle.std.proofs.Common.{◌≤◌, length, arith, sym, ◌∙◌}
use Rattle.wild_clauses.proofs.MisplacedLemmas.{misplaced-all, block-next, parts-done}
use Rattle.wild_clauses.proofs.RoomLemmas.{room_in_block}
use Rattle.wild_clauses.proofs.places.section_misplaced.Goals as goal

pub returns : goal.returns
returns c =
    let done = parts-done c.args.layout.now c.as_slice-parts.result.now c.loop-part.part c.args.layout.now.groups c.loop-part.first c.loop-part-test.false in
    sym done ∙ c.loop-part.invariant ∙ rw c.as_slice-parts.ensures (sym (misplaced-all c.args.layout.now _ 0 c.args.layout.now.groups))

pub loop-part-preserved : goal.loop-part-preserved
loop-part-preserved c =
    let from : c.loop-part.part ≤ c.min-end.result = omega arith in
    let to : c.min-end.result ≤ length c.as_slice-parts.result.now = omega arith in
    let next = block-next c.args.layout.now c.as_slice-parts.result.now c.loop-part.part c.min-end.result c.args.layout.now.groups c.loop-part.first from to in
    rw (c.earlier-first.ensures, c.block_misplaced.ensures) (next ∙ c.loop-part.invariant)

pub block_misplaced-requires-clause-room : goal.block_misplaced-requires-clause-room
block_misplaced-requires-clause-room c k lt =
    let from : c.loop-part.part ≤ c.min-end.result = omega arith in
    let to : c.min-end.result ≤ length c.as_slice-parts.result.now = omega arith in
    room_in_block c.args.layout.now c.as_slice-parts.result.now c.loop-part.part c.min-end.result c.as_slice-parts.ensures c.requires.sizes c.requires.shares from to k (omega arith)
