use Rattle.std.proofs.Common.{◌<◌, ◌^◌, take}
use Rattle.std.specs.Prelude.{All}
use Rattle.wild_types.specs.declared.file.Group.{Group}
use Rattle.wild_layout.proofs.numbers.starts_fit.Given as goal

abbrev pub invariant-loop-group : goal.invariant-loop-group
invariant-loop-group l = All (λ (g : Group). g.dynstr_start < 2 ^ 64) (take l.group-index l.groups)
