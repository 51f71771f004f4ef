use Rattle.wild_image.proofs.Common.{arith, slice_get_within}
use Rattle.wild_image.proofs.share_job.all_are_correct.Goals as goal

pub returns : goal.returns
returns c = λ e i o at. c.loop-check.invariant i o (let low = slice_get_within c.args.checks.now i o at in omega (arith, low, c.loop-check-test.false)) at
