use Rattle.std.proofs.Common.{◌≡◌, drop}
use Rattle.wild_types.specs.Shares.{part_of_role}
use Rattle.wild_types.proofs.shares.part_of.Given as goal

abbrev pub invariant-loop-i : goal.invariant-loop-i
invariant-loop-i l = part_of_role l.role l.i (drop l.i l.layout.parts) ≡ part_of_role l.role 0 l.layout.parts
