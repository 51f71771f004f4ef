use Rattle.std.proofs.Common.{◌≡◌, drop}
use Rattle.wild_space.specs.Binds.{first_definition}
use Rattle.wild_space.proofs.binds.first_definition.Given as goal

abbrev pub invariant-loop-n : goal.invariant-loop-n
invariant-loop-n l = first_definition l.space.images.now l.n (drop l.n l.space.order) l.name ≡ first_definition l.space.images.now l.start (drop l.start l.space.order) l.name
