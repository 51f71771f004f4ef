use Rattle.std.proofs.Common.{◌≡◌, take}
use Rattle.wild_terms.specs.Symbolic.{tails_of}
use Rattle.wild_terms.proofs.load.tails.Given as goal

abbrev pub invariant-loop-header : goal.invariant-loop-header
invariant-loop-header l = l.extents.items ≡ tails_of (take l.header-index l.headers)
