use Rattle.wild_image.proofs.Common.{◌≡◌, ◌++◌, take, flat_map, merged_bytes}
use Rattle.wild_image.proofs.buffer.add_merged_and_identity.Given as goal

abbrev pub invariant-loop-merged : goal.invariant-loop-merged
invariant-loop-merged l = l.bytes ≡ l.initial.bytes ++ flat_map merged_bytes (take l.merged-index l.layout.merged)
