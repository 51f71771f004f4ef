use Rattle.std.proofs.Common.{take}
use Rattle.std.specs.Prelude.{All}
use Rattle.wild_types.specs.declared.file.Group.{Group}
use Rattle.wild_types.specs.declared.file.File.{File}
use Rattle.wild_layout.specs.Numbers.{InputNumbers}
use Rattle.wild_layout.proofs.inputs.groups_fit.Given as goal

abbrev pub invariant-loop-group : goal.invariant-loop-group
invariant-loop-group l = All (λ (g : Group). All (λ (f : File). All InputNumbers f.sections) g.files) (take l.group-index l.groups)
