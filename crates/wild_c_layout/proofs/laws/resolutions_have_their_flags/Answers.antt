use Rattle.wild_c_layout.proofs.LayoutLemmas.{resolved_with_flags}
use Rattle.wild_c_layout.proofs.laws.resolutions_have_their_flags.Goals as goal

pub returns : goal.returns
returns c = resolved_with_flags
