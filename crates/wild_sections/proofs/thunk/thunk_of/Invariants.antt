use Rattle.std.proofs.Common.{◌≡◌, length}
use Rattle.wild_layout.specs.Thunks.{Ascend, thunk_of}
use Rattle.wild_sections.proofs.thunk.thunk_of.Given as goal

abbrev pub invariant-loop-rest : goal.invariant-loop-rest
invariant-loop-rest l = Ascend l.rest × (thunk_of l.symbol l.rest ≡ thunk_of l.symbol l.thunks)

abbrev pub decreases-loop-rest : goal.decreases-loop-rest
decreases-loop-rest l = length l.rest
