use Rattle.wild_text.proofs.SpaceLemmas.{has_images}
use Rattle.wild_text.proofs.laws.spaces_have_images.Goals as goal

pub returns : goal.returns
returns c = has_images
