use Rattle.std.proofs.Common.{◌≡◌, ◌*◌, []}
use Rattle.wild_clauses.specs.Copies.{repeated_copy_between}
use Rattle.wild_clauses.proofs.copies.first_double_copy.Given as goal

abbrev pub invariant-loop-window : goal.invariant-loop-window
invariant-loop-window l = l.first ≡ repeated_copy_between l.layout 0 (l.window * 65536) [] 0 l.groups
