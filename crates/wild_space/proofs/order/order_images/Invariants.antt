use Rattle.std.proofs.Common.{◌≡◌, ◌-◌, length}
use Rattle.wild_space.specs.Order.{walk, order_of, IsGrowing}
use Rattle.wild_space.proofs.order.order_images.Given as goal

abbrev pub invariant-loop-p : goal.invariant-loop-p
invariant-loop-p l = record {
  same : walk l.images (length l.images - l.p) l.p l.growing.order ≡ order_of l.images;
  growing : IsGrowing (length l.images) l.growing;
}
