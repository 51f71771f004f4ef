use Rattle.std.proofs.Common.{◌≡◌, ◌-◌, length}
use Rattle.wild_space.specs.Given.{steps}
use Rattle.wild_space.specs.Bound.{with_image_bound, later_spaces}
use Rattle.wild_space.proofs.worlds.later_spaces.Given as goal

abbrev pub invariant-loop-n : goal.invariant-loop-n
invariant-loop-n l =
    steps (with_image_bound l.space.images.now l.space.order l.space.resolvers.now) (length l.space.order - l.n) l.n l.spaces
    ≡ later_spaces l.space.images.now l.space.order l.space.resolvers.now l.fn.binds
