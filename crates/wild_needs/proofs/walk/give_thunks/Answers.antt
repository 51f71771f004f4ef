use Rattle.wild_needs.specs.TableSymbols.{thunk_item}
use Rattle.wild_words.proofs.RunLemmas.{listed_next}
use Rattle.wild_needs.proofs.walk.give_thunks.Goals as goal

pub loop-thunk-preserved : goal.loop-thunk-preserved
loop-thunk-preserved g c = listed_next (thunk_item c.args.layout.now) c.thunks_of-thunk-items.result.now c.loop-thunk.thunk-index c.thunk-item.result c.loop-thunk-test.true c.thunk-item.is c.loop-thunk.invariant c.in_ok-give_thunk.ensures
