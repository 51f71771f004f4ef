use Rattle.wild_image.proofs.Common.{◌≡◌, take, total, given}
use Rattle.wild_image.proofs.buffer.total_given.Given as goal

abbrev pub invariant-loop-group : goal.invariant-loop-group
invariant-loop-group l = l.sum ≡ 0 → total (given l.i) (take l.group-index l.groups) ≡ 0
