use Rattle.wild_image.proofs.Common.{sorted_owned, sorted_in, SortedLies}
use Rattle.wild_image.proofs.AppendLemmas.{lies_at, begins_at, stands_at}
use Rattle.wild_image.proofs.OwnedLemmas.{owned_at}
use Rattle.wild_image.proofs.split_by_part.split_sorted.Goals as goal

pub split_sorted_section-requires-clause-lies : goal.split_sorted_section-requires-clause-lies
split_sorted_section-requires-clause-lies c = lies_at (SortedLies c.args.layout.now) c.args.layout.now.sorted c.as_slice-entry-items.result.now c.loop-entry.entry-index _ c.as_slice-entry-items.ensures c.loop-entry-test.true c.requires.lies

pub split_sorted_section-requires-clause-own : goal.split_sorted_section-requires-clause-own
split_sorted_section-requires-clause-own c = begins_at (sorted_owned c.args.layout.now) c.args.layout.now.sorted c.as_slice-entry-items.result.now c.loop-entry.entry-index _ c.args.bytes.now c.loop-entry.rest.now c.as_slice-entry-items.ensures c.loop-entry-test.true c.requires.own c.loop-entry.invariant.1

pub loop-entry-preserved : goal.loop-entry-preserved
loop-entry-preserved c = (
  owned_at (sorted_in c.args.layout.now) c.args.layout.now.sorted c.as_slice-entry-items.result.now c.loop-entry.entry-index _ c.args.parts.now c.loop-entry.parts c.split_sorted_section.new.parts c.as_slice-entry-items.ensures c.loop-entry-test.true c.split_sorted_section.auto.parts c.loop-entry.invariant.0 c.in_ok-rest.ensures.owned,
  stands_at (sorted_owned c.args.layout.now) c.args.layout.now.sorted c.as_slice-entry-items.result.now c.loop-entry.entry-index _ c.args.bytes.now c.loop-entry.rest.now _ c.as_slice-entry-items.ensures c.loop-entry-test.true c.loop-entry.invariant.1 c.in_ok-rest.ensures.rest,
)
