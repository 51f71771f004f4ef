use Rattle.wild_image.proofs.Common.{sym, subst, merged_bytes, merged_in, MergedLies}
use Rattle.wild_image.proofs.AppendLemmas.{next_begins, stands_more}
use Rattle.wild_image.proofs.OwnedLemmas.{owned_read}
use Rattle.wild_image.proofs.split_by_part.split_strings.Goals as goal

pub split_merged-requires-clause-lies : goal.split_merged-requires-clause-lies
split_merged-requires-clause-lies c =
    let h = rw c.as_slice-merged-items.ensures at c.loop-merged-test.true in
    let read = rw c.as_slice-merged-items.ensures at c.merged-item.is in
    subst (MergedLies c.args.layout.now) (sym read) (c.requires.lies c.loop-merged.merged-index c.merged-item.result h)

pub split_merged-requires-clause-own : goal.split_merged-requires-clause-own
split_merged-requires-clause-own c =
    let h = rw c.as_slice-merged-items.ensures at c.loop-merged-test.true in
    let read = rw c.as_slice-merged-items.ensures at c.merged-item.is in
    next_begins (merged_bytes) c.args.layout.now.merged c.loop-merged.merged-index c.merged-item.result c.args.bytes.now c.loop-merged.rest.now h read c.requires.own c.loop-merged.invariant.1

pub loop-merged-preserved : goal.loop-merged-preserved
loop-merged-preserved c =
    let h = rw c.as_slice-merged-items.ensures at c.loop-merged-test.true in
    let read = rw c.as_slice-merged-items.ensures at c.merged-item.is in (
      owned_read (merged_in c.args.layout.now) c.args.layout.now.merged c.loop-merged.merged-index c.merged-item.result c.args.parts.now c.loop-merged.parts c.split_merged.new.parts h read c.split_merged.auto.parts c.loop-merged.invariant.0 c.in_ok-rest.ensures.owned,
      stands_more (merged_bytes) c.args.layout.now.merged c.loop-merged.merged-index c.merged-item.result c.args.bytes.now c.loop-merged.rest.now _ h read c.loop-merged.invariant.1 c.in_ok-rest.ensures.rest,
    )
