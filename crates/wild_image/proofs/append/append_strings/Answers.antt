use Rattle.wild_image.proofs.Common.{merged_piece, merged_bytes, sym, subst, MergedLies}
use Rattle.wild_image.proofs.PrefixLemmas.{overlay_prefix_read}
use Rattle.wild_image.proofs.AppendLemmas.{next_begins, stands_more}
use Rattle.wild_image.proofs.append.append_strings.Goals as goal

pub append_merged-rest-requires-clause-lies : goal.append_merged-rest-requires-clause-lies
append_merged-rest-requires-clause-lies c =
    let h = rw c.as_slice-merged-items.ensures at c.loop-merged-test.true in
    let read = rw c.as_slice-merged-items.ensures at c.merged-item.is in
    subst (MergedLies c.args.layout.now) (sym read) (c.requires.lies c.loop-merged.merged-index c.merged-item.result h)

pub append_merged-rest-requires-clause-own : goal.append_merged-rest-requires-clause-own
append_merged-rest-requires-clause-own c =
    let h = rw c.as_slice-merged-items.ensures at c.loop-merged-test.true in
    let read = rw c.as_slice-merged-items.ensures at c.merged-item.is in
    next_begins (merged_bytes) c.args.layout.now.merged c.loop-merged.merged-index c.merged-item.result c.args.bytes.now c.loop-merged.rest.now h read c.requires.own c.loop-merged.invariant.1

pub loop-merged-preserved : goal.loop-merged-preserved
loop-merged-preserved c =
    let h = rw c.as_slice-merged-items.ensures at c.loop-merged-test.true in
    let read = rw c.as_slice-merged-items.ensures at c.merged-item.is in (
      overlay_prefix_read (merged_piece c.args.layout.now) c.args.layout.now.merged c.loop-merged.merged-index c.merged-item.result c.args.out.now c.loop-merged.out c.append_merged-rest.new.out h read c.loop-merged.invariant.0 c.append_merged-rest.ensures.image,
      stands_more (merged_bytes) c.args.layout.now.merged c.loop-merged.merged-index c.merged-item.result c.args.bytes.now c.loop-merged.rest.now c.append_merged-rest.result.now h read c.loop-merged.invariant.1 c.append_merged-rest.ensures.rest,
    )
