use Rattle.wild_image.proofs.Common.{drop}
use Rattle.wild_image.proofs.PaddingLemmas.{FillsFrom}
use Rattle.wild_image.proofs.padding.fill_whole_sections.Given as goal

abbrev pub invariant-loop-i : goal.invariant-loop-i
invariant-loop-i l = FillsFrom l.layout (drop 1 l.layout.sections) l.i l.blank l.out

abbrev pub decreases-loop-i : goal.decreases-loop-i
decreases-loop-i l = l.i
