use Rattle.std.proofs.Common.{◌≡◌, drop}
use Rattle.wild_types.specs.Lists.{first_failing}
use Rattle.wild_types.proofs.search.first_failing.Given as goal

abbrev pub invariant-loop-i : goal.invariant-loop-i
invariant-loop-i g l = first_failing (g.C.Test.test l.test) l.i (drop l.i l.items) ≡ first_failing (g.C.Test.test l.test) 0 l.items
