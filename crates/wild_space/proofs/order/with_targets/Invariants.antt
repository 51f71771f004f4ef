use Rattle.std.proofs.Common.{◌≡◌, length, drop}
use Rattle.wild_space.specs.Order.{with_targets, IsGrowing}
use Rattle.wild_space.proofs.order.with_targets.Given as goal

abbrev pub invariant-loop-k : goal.invariant-loop-k
invariant-loop-k l = (with_targets l.images l.image l.tables l.k (drop l.k l.offsets) l.growing.order ≡ with_targets l.images l.image l.tables 0 l.offsets l.initial.growing.order) × IsGrowing (length l.images) l.growing
