use Rattle.std.proofs.Common.{◌≡◌, ◌++◌, drop}
use Rattle.wild_space.specs.Binds.{modules_from, modules_of}
use Rattle.wild_space.proofs.worlds.modules_of.Given as goal

abbrev pub invariant-loop-n : goal.invariant-loop-n
invariant-loop-n l = l.modules ++ modules_from l.space.images.now l.n (drop l.n l.space.order) ≡ modules_of l.space.images.now l.space.order
