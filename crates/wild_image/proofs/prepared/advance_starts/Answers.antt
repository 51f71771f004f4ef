use Rattle.wild_image.proofs.Common.{ap, length, arith}
use Rattle.wild_image.proofs.AppendLemmas.{read_at}
use Rattle.wild_image.proofs.ChangedLemmas.{not_changed}
use Rattle.wild_image.proofs.TableLemmas.{start_fits, start_more, start_read, starts_more, starts_moved}
use Rattle.wild_image.proofs.prepared.advance_starts.Goals as goal

pub overflow_add-starts : goal.overflow_add-starts
overflow_add-starts c =
    let l = c.args.layout.now in
    let items = c.as_slice-part-items.result.now in
    let at = read_at l.parts items c.loop-i.i _ c.as_slice-part-items.ensures c.loop-i-test.true c.part-item.is in
    let start = start_read l c.args.index c.loop-i.i _ c.args.starts.now c.loop-i.starts at c.requires.starts (c.loop-i.invariant.rest c.loop-i.i (omega arith)) in
    let size = c.written_size.ensures in
    let fits = start_fits l c.loop-i.i c.args.index _ c.args.group.now c.requires.lies at c.requires.group in
    omega (arith, start, size, fits)

pub loop-i-preserved : goal.loop-i-preserved
loop-i-preserved c =
    let l = c.args.layout.now in
    let items = c.as_slice-part-items.result.now in
    let at = read_at l.parts items c.loop-i.i _ c.as_slice-part-items.ensures c.loop-i-test.true c.part-item.is in
    let start = start_read l c.args.index c.loop-i.i _ c.args.starts.now c.loop-i.starts at c.requires.starts (c.loop-i.invariant.rest c.loop-i.i (omega arith)) in
    let size = c.written_size.ensures in
    let more = start_more l c.loop-i.i c.args.index _ c.args.group.now at c.requires.group in
    starts_more l c.args.index c.loop-i.i _ c.args.starts.now c.loop-i.starts _ at c.requires.starts c.loop-i.invariant (omega (arith, start, size, more))

pub returns : goal.returns
returns c =
    let l = c.args.layout.now in
    let same = ap length c.as_slice-part-items.ensures in
    starts_moved l c.args.index c.loop-i.i c.args.starts.now c.loop-i.starts (omega (arith, same, c.loop-i-test.false)) c.requires.starts c.loop-i.invariant
