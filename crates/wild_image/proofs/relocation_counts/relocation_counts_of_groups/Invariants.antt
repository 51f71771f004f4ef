use Rattle.wild_image.proofs.Common.{◌≡◌, true, [], take, flat_map, with_pairs, group_pairs}
use Rattle.wild_image.proofs.relocation_counts.relocation_counts_of_groups.Given as goal

abbrev pub invariant-loop-group : goal.invariant-loop-group
invariant-loop-group l = l.pairs.items ≡ with_pairs true [] (flat_map (group_pairs l.layout) (take l.group-index l.groups))
