use Rattle.wild_image.proofs.Common.{take, list_any, merged_bytes, Marks}
use Rattle.wild_types.specs.declared.layout.Merged.{Merged}
use Rattle.wild_layout.specs.Image.{front_owns}
use Rattle.wild_image.proofs.marks.mark_merged_and_identity.Given as goal

abbrev pub invariant-loop-merged : goal.invariant-loop-merged
invariant-loop-merged l = Marks (λ k. list_any (λ (m : Merged). front_owns l.layout k m.part (merged_bytes m)) (take l.merged-index l.layout.merged)) l.initial.taken l.taken
