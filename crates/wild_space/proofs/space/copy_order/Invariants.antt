use Rattle.std.proofs.Common.{◌≡◌, take}
use Rattle.wild_space.proofs.space.copy_order.Given as goal

abbrev pub invariant-loop-image : goal.invariant-loop-image
invariant-loop-image l = l.copy ≡ take l.image-index l.order
