use Rattle.std.proofs.Common.{All, List, subst}
use Rattle.wild_types.specs.declared.input.InputSection.{InputSection}
use Rattle.wild_layout.specs.Numbers.{InputNumbers}
use Rattle.wild_layout.proofs.inputs.file_fits.Goals as goal

pub returns : goal.returns
returns c = subst (λ (xs : List InputSection). All InputNumbers xs) c.as_slice.ensures c.sections_fit.ensures
