use Rattle.std.proofs.Common.{◌≤◌, length, drop}
use Rattle.wild_space.specs.Names.{IsTableFrom}
use Rattle.wild_space.proofs.names.name_table.Given as goal

abbrev pub invariant-loop-i : goal.invariant-loop-i
invariant-loop-i l = (l.i ≤ length l.images) × IsTableFrom l.i l.table (drop l.i l.images)

abbrev pub decreases-loop-i : goal.decreases-loop-i
decreases-loop-i l = l.i
