use Rattle.std.proofs.Common.{take}
use Rattle.std.specs.Prelude.{All}
use Rattle.wild_layout.specs.Numbers.{AddendFits}
use Rattle.wild_layout.proofs.inputs.relocations_fit.Given as goal

abbrev pub invariant-loop-relocation : goal.invariant-loop-relocation
invariant-loop-relocation l = All AddendFits (take l.relocation-index l.relocations)
