use Rattle.wild_image.proofs.Common.{sorted_pieces, sorted_owned, SortedLies}
use Rattle.wild_image.proofs.AppendLemmas.{lies_at, begins_at, stands_at, overlay_prefix_at}
use Rattle.wild_image.proofs.append.append_sorted.Goals as goal

pub append_sorted_section-rest-requires-clause-lies : goal.append_sorted_section-rest-requires-clause-lies
append_sorted_section-rest-requires-clause-lies c = lies_at (SortedLies c.args.layout.now) c.args.layout.now.sorted c.as_slice-entry-items.result.now c.loop-entry.entry-index _ c.as_slice-entry-items.ensures c.loop-entry-test.true c.requires.lies

pub append_sorted_section-rest-requires-clause-own : goal.append_sorted_section-rest-requires-clause-own
append_sorted_section-rest-requires-clause-own c = begins_at (sorted_owned c.args.layout.now) c.args.layout.now.sorted c.as_slice-entry-items.result.now c.loop-entry.entry-index _ c.args.bytes.now c.loop-entry.rest.now c.as_slice-entry-items.ensures c.loop-entry-test.true c.requires.own c.loop-entry.invariant.1

pub loop-entry-preserved : goal.loop-entry-preserved
loop-entry-preserved c = (
  overlay_prefix_at (sorted_pieces c.args.layout.now) c.args.layout.now.sorted c.as_slice-entry-items.result.now c.loop-entry.entry-index _ c.args.out.now c.loop-entry.out c.append_sorted_section-rest.new.out c.as_slice-entry-items.ensures c.loop-entry-test.true c.loop-entry.invariant.0 c.append_sorted_section-rest.ensures.image,
  stands_at (sorted_owned c.args.layout.now) c.args.layout.now.sorted c.as_slice-entry-items.result.now c.loop-entry.entry-index _ c.args.bytes.now c.loop-entry.rest.now c.append_sorted_section-rest.result.now c.as_slice-entry-items.ensures c.loop-entry-test.true c.loop-entry.invariant.1 c.append_sorted_section-rest.ensures.rest,
)
