use Rattle.wild_image.proofs.Common.{◌≡◌, drop, list_all}
use Rattle.wild_image.specs.Padding.{fills_evenly, has_even_fillings}
use Rattle.wild_image.proofs.padding.has_even_fillings.Given as goal

abbrev pub invariant-loop-section : goal.invariant-loop-section
invariant-loop-section l = list_all (fills_evenly l.layout) (drop l.section-index (drop 1 l.layout.sections)) ≡ has_even_fillings l.layout
