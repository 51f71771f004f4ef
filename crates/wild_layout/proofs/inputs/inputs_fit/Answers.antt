use Rattle.std.proofs.Common.{List, subst}
use Rattle.wild_types.specs.declared.file.Group.{Group}
use Rattle.wild_layout.specs.Numbers.{InputsFit}
use Rattle.wild_layout.proofs.inputs.inputs_fit.Goals as goal

pub returns : goal.returns
returns c = subst (λ (xs : List Group). InputsFit xs) c.as_slice.ensures c.groups_fit.ensures
