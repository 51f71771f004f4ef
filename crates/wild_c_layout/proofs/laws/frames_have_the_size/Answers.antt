use Rattle.wild_c_layout.proofs.LayoutLemmas.{image_size-frame}
use Rattle.wild_c_layout.proofs.laws.frames_have_the_size.Goals as goal

pub returns : goal.returns
returns c = image_size-frame
