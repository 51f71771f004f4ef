use Rattle.std.proofs.Common.{◌≡◌, true, drop}
use Rattle.std.specs.Prelude.{◌==◌}
use Rattle.wild_types.specs.FilePlaces.{first_misplaced_file}
use Rattle.wild_clauses.proofs.shares.first_misplaced_file.Given as goal

abbrev pub invariant-loop-i : goal.invariant-loop-i
invariant-loop-i l = first_misplaced_file (l.i == 0) l.i (drop l.i l.groups) ≡ first_misplaced_file true 0 l.groups
