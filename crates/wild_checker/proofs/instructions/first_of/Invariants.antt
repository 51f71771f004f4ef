use Rattle.wild_checker.proofs.Common.{◌≡◌, drop, map, first_shape}
use Rattle.wild_checker.specs.Rewritten.{shape_of}
use Rattle.wild_checker.proofs.instructions.first_of.Given as goal

abbrev pub invariant-loop-row : goal.invariant-loop-row
invariant-loop-row l = first_shape l.number l.bytes l.end (map shape_of (drop l.row-index l.rows)) ≡ first_shape l.number l.bytes l.end (map shape_of l.rows)
