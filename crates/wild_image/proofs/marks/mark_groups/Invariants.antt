use Rattle.wild_image.proofs.Common.{take, list_any, Marks}
use Rattle.wild_layout.specs.Image.{group_owns}
use Rattle.wild_image.proofs.marks.mark_groups.Given as goal

abbrev pub invariant-loop-group : goal.invariant-loop-group
invariant-loop-group l = Marks (λ k. list_any (group_owns l.layout k) (take l.group-index l.layout.groups)) l.initial.taken l.taken
