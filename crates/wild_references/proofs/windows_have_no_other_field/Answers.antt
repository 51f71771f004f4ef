use Rattle.wild_references.proofs.Windows.{windows_have_no_other_field}
use Rattle.wild_references.proofs.windows_have_no_other_field.Goals as goal

pub returns : goal.returns
returns c = windows_have_no_other_field
