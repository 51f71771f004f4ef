use Rattle.std.proofs.Common.{◌≡◌, drop}
use Rattle.std.specs.Prelude.{find}
use Rattle.wild_types.specs.Parts.{has_role}
use Rattle.wild_types.proofs.part.part_with.Given as goal

abbrev pub invariant-loop-part : goal.invariant-loop-part
invariant-loop-part l = find (has_role l.role) (drop l.part-index l.parts) ≡ find (has_role l.role) l.parts
