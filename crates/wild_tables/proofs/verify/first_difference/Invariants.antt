use Rattle.std.proofs.Common.{◌≡◌, drop}
use Rattle.wild_tables.specs.Verify.{first_difference}
use Rattle.wild_tables.proofs.verify.first_difference.Given as goal

abbrev pub invariant-loop-part : goal.invariant-loop-part
invariant-loop-part l = first_difference l.part (drop l.part l.given) (drop l.part l.needed) ≡ first_difference 0 l.given l.needed
