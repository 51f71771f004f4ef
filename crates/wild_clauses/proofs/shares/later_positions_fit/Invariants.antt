use Rattle.std.proofs.Common.{◌≡◌, drop}
use Rattle.wild_types.specs.FilePlaces.{later_positions_fit}
use Rattle.wild_clauses.proofs.shares.later_positions_fit.Given as goal

abbrev pub invariant-loop-i : goal.invariant-loop-i
invariant-loop-i l = later_positions_fit l.last (drop l.i l.files) ≡ later_positions_fit l.last l.files
