use Rattle.std.proofs.Common.{◌≡◌, drop}
use Rattle.wild_clauses.specs.Copies.{first_marked}
use Rattle.wild_clauses.proofs.copies.first_marked.Given as goal

abbrev pub invariant-loop-i : goal.invariant-loop-i
invariant-loop-i l = first_marked l.layout l.start l.marks l.i (drop l.i l.groups) ≡ first_marked l.layout l.start l.initial.marks 0 l.groups
