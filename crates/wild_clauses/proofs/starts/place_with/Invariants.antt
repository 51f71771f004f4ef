use Rattle.std.proofs.Common.{◌≡◌, drop}
use Rattle.std.specs.List.{position_from}
use Rattle.wild_types.specs.Parts.{has_role}
use Rattle.wild_clauses.proofs.starts.place_with.Given as goal

abbrev pub invariant-loop-i : goal.invariant-loop-i
invariant-loop-i l = position_from (has_role l.fn.role) l.i (drop l.i l.parts) ≡ position_from (has_role l.fn.role) 0 l.parts
