use Rattle.wild_image.proofs.Common.{thunk_bytes, thunk_piece}
use Rattle.wild_image.proofs.PrefixLemmas.{overlay_prefix_read}
use Rattle.wild_image.proofs.AppendLemmas.{next_begins, stands_more}
use Rattle.wild_image.proofs.append.append_all_thunks.Goals as goal

pub append_thunk-rest-requires-clause-own : goal.append_thunk-rest-requires-clause-own
append_thunk-rest-requires-clause-own c =
    next_begins (thunk_bytes c.args.layout.now) c.thunks_of-thunk-items.result.now c.loop-thunk.thunk-index c.thunk-item.result c.args.bytes.now c.loop-thunk.rest.now c.loop-thunk-test.true c.thunk-item.is (rw c.thunks_of-thunk-items.ensures c.requires.own) c.loop-thunk.invariant.1

pub loop-thunk-preserved : goal.loop-thunk-preserved
loop-thunk-preserved c = (
  overlay_prefix_read (thunk_piece c.args.layout.now) c.thunks_of-thunk-items.result.now c.loop-thunk.thunk-index c.thunk-item.result c.args.out.now c.loop-thunk.out c.append_thunk-rest.new.out c.loop-thunk-test.true c.thunk-item.is c.loop-thunk.invariant.0 c.append_thunk-rest.ensures.image,
  stands_more (thunk_bytes c.args.layout.now) c.thunks_of-thunk-items.result.now c.loop-thunk.thunk-index c.thunk-item.result c.args.bytes.now c.loop-thunk.rest.now c.append_thunk-rest.result.now c.loop-thunk-test.true c.thunk-item.is c.loop-thunk.invariant.1 c.append_thunk-rest.ensures.rest,
)
