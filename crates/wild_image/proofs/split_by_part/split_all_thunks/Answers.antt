use Rattle.wild_image.proofs.Common.{thunk_bytes, thunk_in}
use Rattle.wild_image.proofs.AppendLemmas.{next_begins, stands_more}
use Rattle.wild_image.proofs.OwnedLemmas.{owned_read}
use Rattle.wild_image.proofs.split_by_part.split_all_thunks.Goals as goal

pub split_thunk-requires-clause-own : goal.split_thunk-requires-clause-own
split_thunk-requires-clause-own c =
    next_begins (thunk_bytes c.args.layout.now) c.thunks_of-thunk-items.result.now c.loop-thunk.thunk-index c.thunk-item.result c.args.bytes.now c.loop-thunk.rest.now c.loop-thunk-test.true c.thunk-item.is (rw c.thunks_of-thunk-items.ensures c.requires.own) c.loop-thunk.invariant.1

pub loop-thunk-preserved : goal.loop-thunk-preserved
loop-thunk-preserved c = (
  owned_read (thunk_in c.args.layout.now) c.thunks_of-thunk-items.result.now c.loop-thunk.thunk-index c.thunk-item.result c.args.parts.now c.loop-thunk.parts c.split_thunk.new.parts c.loop-thunk-test.true c.thunk-item.is c.split_thunk.auto.parts c.loop-thunk.invariant.0 c.in_ok-rest.ensures.owned,
  stands_more (thunk_bytes c.args.layout.now) c.thunks_of-thunk-items.result.now c.loop-thunk.thunk-index c.thunk-item.result c.args.bytes.now c.loop-thunk.rest.now _ c.loop-thunk-test.true c.thunk-item.is c.loop-thunk.invariant.1 c.in_ok-rest.ensures.rest,
)
