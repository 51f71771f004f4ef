use Rattle.wild_image.proofs.Common.{◌≡◌, take, flat_map, with_pairs, file_pairs}
use Rattle.wild_image.proofs.relocation_counts.count_group.Given as goal

abbrev pub invariant-loop-file : goal.invariant-loop-file
invariant-loop-file l = l.pairs.items ≡ with_pairs l.join l.initial.pairs.items (flat_map (file_pairs l.layout) (take l.file-index l.group.files))
