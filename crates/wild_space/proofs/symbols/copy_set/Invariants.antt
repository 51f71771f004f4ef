use Rattle.std.proofs.Common.{take}
use Rattle.wild_space.specs.Copies.{IsCopySet}
use Rattle.wild_space.proofs.symbols.copy_set.Given as goal

abbrev pub invariant-loop-index : goal.invariant-loop-index
invariant-loop-index l = IsCopySet l.set (take l.index-index l.copies)
