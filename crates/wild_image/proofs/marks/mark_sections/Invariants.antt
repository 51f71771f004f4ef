use Rattle.wild_image.proofs.Common.{take, list_any, Marks}
use Rattle.wild_layout.specs.Image.{section_owns}
use Rattle.wild_image.proofs.marks.mark_sections.Given as goal

abbrev pub invariant-loop-section : goal.invariant-loop-section
invariant-loop-section l = Marks (λ k. list_any (section_owns l.layout k) (take l.section-index l.file.sections)) l.initial.taken l.taken
