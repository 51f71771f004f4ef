use Rattle.wild_checker.proofs.Common.{◌≡◌, drop}
use Rattle.wild_checker.specs.Segments.{first_different}
use Rattle.wild_checker.proofs.segments.first_different.Given as goal

abbrev pub invariant-loop-i : goal.invariant-loop-i
invariant-loop-i l = first_different l.i (drop l.i l.a) l.b ≡ first_different 0 l.a l.b
