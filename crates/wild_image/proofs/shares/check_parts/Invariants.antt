use Rattle.wild_image.proofs.Common.{◌≡◌, [], take, flat_map_from, part_faults}
use Rattle.wild_image.proofs.shares.check_parts.Given as goal

abbrev pub invariant-loop-i : goal.invariant-loop-i
invariant-loop-i l = flat_map_from (part_faults l.layout) 0 (take l.i l.parts) ≡ []
