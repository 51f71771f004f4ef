use Rattle.wild_image.proofs.Common.{take, list_any, Marks}
use Rattle.wild_layout.specs.Image.{file_owns}
use Rattle.wild_image.proofs.marks.mark_group.Given as goal

abbrev pub invariant-loop-file : goal.invariant-loop-file
invariant-loop-file l = Marks (λ k. list_any (file_owns l.layout k) (take l.file-index l.group.files)) l.initial.taken l.taken
