use Rattle.wild_image.proofs.Common.{take, list_any, thunks_of, Marks}
use Rattle.wild_layout.specs.Image.{thunk_owns}
use Rattle.wild_image.proofs.marks.mark_file.Given as goal

abbrev pub invariant-loop-thunk : goal.invariant-loop-thunk
invariant-loop-thunk l = Marks (λ k. list_any (thunk_owns l.layout k) (take l.thunk-index (thunks_of l.layout l.file))) l.initial.taken l.taken
