use Rattle.wild_image.proofs.Common.{◌≡◌, ◌+◌, ◌≤◌, length}
use Rattle.wild_image.proofs.BatchLemmas.{IsCut}
use Rattle.wild_image.proofs.batch.batches_of.Given as goal

abbrev pub invariant-loop-rest : goal.invariant-loop-rest
invariant-loop-rest l =
    IsCut l.groups l.batches.items l.first l.rest
    × (l.first + length l.rest ≡ length l.groups)
    × (length l.batches.items + length l.rest ≤ length l.groups)

abbrev pub decreases-loop-rest : goal.decreases-loop-rest
decreases-loop-rest l = length l.rest
