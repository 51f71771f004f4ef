use Rattle.std.proofs.Common.{◌≡◌, drop}
use Rattle.wild_space.specs.Bound.{none_copies}
use Rattle.wild_space.proofs.copies.none_copies.Given as goal

abbrev pub invariant-loop-n : goal.invariant-loop-n
invariant-loop-n l = none_copies l.space.images.now (drop l.n l.space.order) ≡ none_copies l.space.images.now (drop 1 l.space.order)
