use Rattle.wild_image.proofs.Common.{sym, ◌∙◌, eqb-true}
use Rattle.wild_image.proofs.BatchLemmas.{cut_done}
use Rattle.wild_image.proofs.batch.batches_of.Goals as goal

pub returns-clause-batches : goal.returns-clause-batches
returns-clause-batches c = cut_done c.args.groups.now c.loop-rest.rest.now c.loop-rest.batches.items c.loop-rest.first (eqb-true _ _ (sym c.is_empty.ensures ∙ c.loop-rest-test.false)) c.loop-rest.invariant.0
