use Rattle.wild_image.proofs.Common.{◌≡◌, take, flat_map, with_pairs, section_pairs}
use Rattle.wild_image.proofs.relocation_counts.count_file.Given as goal

abbrev pub invariant-loop-section : goal.invariant-loop-section
invariant-loop-section l = l.pairs.items ≡ with_pairs l.join l.initial.pairs.items (flat_map (section_pairs l.layout) (take l.section-index l.file.sections))
