use Rattle.std.proofs.Common.{All, List, subst}
use Rattle.wild_types.specs.declared.file.File.{File}
use Rattle.wild_layout.specs.Numbers.{InputNumbers}
use Rattle.wild_layout.proofs.inputs.group_fits.Goals as goal

pub returns : goal.returns
returns c = subst (λ (xs : List File). All (λ (f : File). All InputNumbers f.sections) xs) c.as_slice.ensures c.files_fit.ensures
