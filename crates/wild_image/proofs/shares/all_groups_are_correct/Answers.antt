use Rattle.wild_image.proofs.ShareLemmas.{whole_checked}
use Rattle.wild_image.proofs.shares.all_groups_are_correct.Goals as goal

pub returns : goal.returns
returns c = λ e. whole_checked c.args.layout.now c.as_slice.result.now c.as_slice.ensures (c.batch_is_correct.ensures e)
