use Rattle.wild_image.proofs.Common.{take, list_any, Marks}
use Rattle.wild_layout.specs.Image.{part_owns}
use Rattle.wild_image.proofs.marks.mark_parts.Given as goal

abbrev pub invariant-loop-part : goal.invariant-loop-part
invariant-loop-part l = Marks (λ k. list_any (part_owns l.layout k) (take l.part-index l.layout.parts)) l.initial.taken l.taken
